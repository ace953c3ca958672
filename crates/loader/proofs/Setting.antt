-- The counts of a listing set one by one, as `set_counts` sets them. From the laws of lines and the steps of the crate loading.
use Rattle.std.proofs.Common.{◌≡◌, sym, ap, ◌∙◌, true, false, List, [], ℕ, suc, ◌+◌, length, drop, set, length-set, Option, None, Some, arith}
use Rattle.std.specs.Borrow.{Bor}
use Rattle.settings.specs.Grounds.{Ground}
use Rattle.tally_book.specs.Table.{class_count}
use Rattle.settings.specs.Given.{Given}
use Rattle.lines.specs.Lines.{lines}
use Rattle.loading.specs.Shapes.{is_total_line}
use Rattle.loading.specs.declared.Next.TheVariants.{CountOrTotal}
use Rattle.loading.specs.Loading.{code_in, count_in, load_fault, loaded_from}
use Rattle.loading.proofs.Steps.{CountRead, count_read}
use Rattle.loading.proofs.Theorems.{survey_read}
use Rattle.loader.specs.Needs.{ForTable, FirstLine, NextLine, ClassRead, SetsCounts}
use Rattle.loader.proofs.Loops.{counts_end, counts_next, counts_done}
use Rattle.loader.proofs.Judged.{count_long}

-- What is left of the lines gives the counts at the end, and has no fault.
pub record Setting (text : List ℕ) (settings : Given) (counts₀ counts rest : List ℕ) : Type 0 where
  pub left : loaded_from settings counts₀ (drop 1 (lines text)) ≡ loaded_from settings counts (lines rest)
  pub low : ℕ
  pub so_far : ℕ
  pub at : ℕ
  pub no_fault : load_fault settings (CountOrTotal low so_far) at (lines rest) ≡ None
  pub one_a_class : length counts ≡ class_count settings

-- Behind the survey line, which a text without a fault has.
pub setting_none : {text after : List ℕ} {settings : Given} {counts : List ℕ} (first : Option (Bor (List ℕ))) → ForTable settings
    → SetsCounts text settings counts → NextLine text first after → Setting text settings counts counts after
unfolding load_fault lines
setting_none None T S N =
    let none : ◌≡◌ {A = Option Ground} (Some (20, 0)) None = rw N.0 at S.no_fault in
    absurd (let z : ◌≡◌ {A = ℕ} 0 1 = cc in omega arith)
setting_none {text} {after} {settings} {counts} (Some line) T S F = record {
  left = ap (λ (ls : List (List ℕ)). loaded_from settings counts (drop 1 ls)) F.turn;
  low = 0;
  so_far = 0;
  at = _;
  no_fault = (survey_read settings.letters settings.k settings.mirror T.good line.now (lines after) (rw F.turn at S.no_fault)).1;
  one_a_class = S.one_a_class;
}

module _ {text : List ℕ} {settings : Given} {counts₀ counts rest : List ℕ} (T : ForTable settings)
    (I : Setting text settings counts₀ counts rest) where
  -- No line is left.
  pub setting_done : rest ≡ [] → counts ≡ loaded_from settings counts₀ (drop 1 (lines text))
  setting_done e = sym (I.left ∙ counts_done settings e counts)

  module _ {line after : List ℕ} (F : FirstLine rest line after) where
    -- The total ends the counts.
    pub setting_total : is_total_line line ≡ true → counts ≡ loaded_from settings counts₀ (drop 1 (lines text))
    setting_total t = sym (I.left ∙ counts_end F settings counts t)

    -- The line of a class.
    module _ (t : is_total_line line ≡ false) where
      line_read : CountRead settings.letters settings.k settings.mirror T.good I.low I.so_far I.at line (lines after)
      line_read = count_read settings.letters settings.k settings.mirror T.good I.low I.so_far I.at line (lines after) t (rw F.turn at I.no_fault)

      pub class_read : ClassRead settings line
      class_read = let R = line_read in record { long = count_long settings.letters settings.k line R.shape; below = R.below; few = R.few }

      pub setting_next : {counts' : List ℕ} → counts' ≡ set counts (code_in settings line) (count_in settings.k line) → Setting text settings counts₀ counts' after
      setting_next e =
          let R = line_read in
          record {
            left = I.left ∙ counts_next F settings counts t ∙ rw e;
            low = suc (code_in settings line);
            so_far = I.so_far + count_in settings.k line;
            at = _;
            no_fault = R.later;
            one_a_class = ap length e ∙ length-set counts (code_in settings line) (count_in settings.k line) ∙ I.one_a_class;
          }
