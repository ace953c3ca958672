-- One line as the functions judge it: the texts that they write to compare with it (`total_held`, `survey_held`), the word that they read in it (`word_read`),
-- and each ground at its test. From the laws of shapes and words of the crate loading.
use Rattle.std.proofs.Common.{◌≡◌, refl, sym, ap, ◌∙◌, Bool, true, false, ◌&&◌, List, [], ◌∷◌, ◌++◌, ℕ, suc, ◌+◌, ◌-◌, ◌≤◌, ◌<◌, min, arith, length, take, drop, length-append, length-drop, take_at, length-take-le, leb, eqb, leb-true, Ok, Err}
use mathlib.Core.Bool.{and-eq-true_iff}
use Rattle.std.proofs.lemmas.Bool.Decides.{nat_tests}
use Rattle.std.specs.Cmp.Lexicographic.{pointwise}
use Rattle.laws.specs.Text.{bytes}
use Rattle.settings.specs.declared.Refusal.TheVariants.{BadLine, OtherSettings, BadCount}
use Rattle.settings.specs.Limits.{Limits}
use Rattle.settings.specs.RankTables.{RanksOf, rank_by_table}
use Rattle.settings.specs.declared.RankTable.{RankTable}
use Rattle.settings.specs.Settings.{mirror_of, settings_of}
use Rattle.settings.specs.declared.Checked.{Checked}
use Rattle.settings.specs.Given.{Given}
use Rattle.settings.proofs.SettingsGrounds.{good_settings, limits}
use Rattle.encoding.specs.Words.{Mirror, mirror as mirror_word, plain}
use Rattle.encoding.specs.Codes.{code}
use Rattle.encoding.specs.Calls.{ranks_of}
use Rattle.ranks.specs.Needs.{FitWord}
use Rattle.words.specs.Needs.{ranks_by}
use Rattle.words.proofs.LetterLoops.{length-ranks_of}
use Rattle.words.proofs.RanksByTable.{Bytes, take-bytes, drop-bytes, ranks_by_table}
use Rattle.words.proofs.TwoWords.{ranks_fit}
use Rattle.texts.specs.Decimals.{decimal}
use Rattle.texts.specs.Needs.{Puts, top}
use Rattle.texts.proofs.Decimals.{decimal-length}
use Rattle.texts.proofs.Writing.{kept, from_start, measured}
use Rattle.fastq.specs.Fastq.{unless_at}
use Rattle.survey.specs.Line.{survey_line}
use Rattle.survey.specs.Grammar.{spelt}
use Rattle.tally_book.specs.Book.{same_word}
use Rattle.tally_book.specs.Table.{class_count}
use Rattle.tally_book.proofs.Classes.{place_below}
use Rattle.listing.specs.Listing.{count_line, total_line}
use Rattle.listing.proofs.Lengths.{survey_length}
use Rattle.loading.specs.Shapes.{same_text, word_in, digits_in, is_count_line, is_total_line, is_survey_line}
use Rattle.loading.specs.declared.Next.TheVariants.{Survey, CountOrTotal, Nothing}
use Rattle.loading.specs.Loading.{ranks_in, code_in, canonical_in, count_in, good_count, next_after, line_fault}
use Rattle.loading.proofs.Words.{word_is, canonical-test}
use Rattle.loading.proofs.Shapes.{CountParts, count_parts}
use Rattle.loader.specs.Needs.{ForTable, Bounded, ClassLine, StepIs, is_right}

-- ---- a text that is written to compare with

-- The test of two texts is std's.
pub same_is : (u v : List ℕ) → pointwise eqb u v ≡ same_text u v
unfolding same_word
same_is [] [] = refl
same_is [] (b ∷ v) = refl
same_is (a ∷ u) [] = refl
same_is (a ∷ u) (b ∷ v) = ap (λ (t : Bool). eqb a b && t) (same_is u v)

-- A text that fits stands at the buffer's front.
pub record Held (text buffer : List ℕ) (n : ℕ) : Type 0 where
  pub inside : n ≤ length buffer
  pub front : take n buffer ≡ text

held : {old new : List ℕ} {n : ℕ} {text : List ℕ} → Puts old new 0 n text → length text ≤ length old → length old ≤ top → Held text new n
held {old} {new} {n} {text} P fits small =
    let long : n ≡ length text = measured P (omega arith) in
    record { inside = omega (arith, kept P); front = rw (long, from_start P fits) (take_at text (drop (length text) old) (length text) refl) }

pub total_held : {old new : List ℕ} {n : ℕ} (sum : ℕ) → sum < 18446744073709551616 → length old ≡ 32 → Puts old new 0 n (total_line sum) → Held (total_line sum) new n
unfolding total_line
total_held sum small size P =
    let long : length (total_line sum) ≤ 29 = simp length-append (omega (arith, decimal-length 19 sum (omega arith))) in
    held P (omega arith) (omega arith)

pub survey_held : {old new : List ℕ} {n : ℕ} (settings : Given) → ForTable settings → length old ≡ 128 → Puts old new 0 n (survey_line settings)
    → Held (survey_line settings) new n
survey_held settings T size P =
    let g = good_settings settings.letters settings.k settings.mirror T.good in
    let fit = survey_length settings.letters settings.k settings.mirror g.few g.short_k T.few in
    held P (omega arith) (omega arith)

-- ---- what the line of a class says

-- It is long enough for its word, one digit and what stands around them.
pub count_long : (letters : List ℕ) (k : ℕ) (l : List ℕ) → is_count_line letters k l ≡ true → 10 + k ≤ length l
unfolding count_line
count_long letters k l e =
    let C = count_parts letters k l e in
    let w = word_in k l in
    let d = decimal (spelt 0 (digits_in k l)) in
    omega (arith, ap length C.is, length-append w (bytes " " ++ (d ++ bytes ")\n")), length-append d (bytes ")\n"), C.word_long)

word_part : (k : ℕ) (l : List ℕ) → take (7 + k - 7) (drop 7 l) ≡ word_in k l
word_part k l = let n : 7 + k - 7 ≡ k = omega arith in ap (λ (x : ℕ). take x (drop 7 l)) n

-- What is known of the ranks of its word, of k letters, as they were looked up, and of what is coded of them.
pub record WordRead (settings : Given) (l : List ℕ) (s : ℕ) (m : Mirror) (own : List ℕ) : Type 0 where
  pub fits : FitWord s own × (s ≤ 16)
  pub code_is : {x : ℕ} → x ≡ code s m (length own) own → x ≡ code_in settings l
  pub canonical_is : {b : Bool} → b ≡ leb (plain s own) (plain s (mirror_word s m own)) → b ≡ canonical_in settings l

pub word_read : {settings : Given} {st : Checked} {table : RankTable} {l own : List ℕ} → ForTable settings → st ≡ settings_of settings
    → RanksOf settings.letters table → Bytes l → 7 + settings.k ≤ length l
    → own ≡ ranks_by (rank_by_table table) (take (7 + settings.k - 7) (drop 7 l)) → WordRead settings l st.s st.mirror own
word_read {settings} {st} {table} {l} {own} T checked R B h e =
    let letters = settings.letters in
    let k = settings.k in
    let lim = limits letters k settings.mirror T.good in
    let word = take (7 + k - 7) (drop 7 l) in
    let looked-up = ranks_by_table R word (take-bytes (7 + k - 7) (drop 7 l) (drop-bytes 7 l B)) in
    let are : own ≡ ranks_in letters k l = e ∙ looked-up ∙ ap (ranks_of letters) (word_part k l) in
    let long : length (word_in k l) ≡ k = length-take-le k (drop 7 l) (omega (arith, length-drop 7 l)) in
    let size : length own ≡ k = ap length are ∙ length-ranks_of letters (word_in k l) ∙ long in
    let within : Limits (length letters) (length (word_in k l)) = rw long lim in
    let s-is : st.s ≡ length letters = ap (λ (x : Checked). x.s) checked in
    let m-is : st.mirror ≡ mirror_of settings.mirror = ap (λ (x : Checked). x.mirror) checked in
    record {
      fits = (rw s-is (ranks_fit letters (word_in k l) within are), rw s-is lim.few);
      code_is = λ x. x ∙ rw (s-is, m-is, size, are);
      canonical_is = λ x. x ∙ rw (s-is, m-is, are) (sym (canonical-test (length letters) (mirror_of settings.mirror) (ranks_in letters k l)));
    }

-- ---- each ground at its test

module _ (settings : Given) (low sum at : ℕ) (l : List ℕ) where
  pub total_good : is_total_line l ≡ true → same_text l (total_line sum) ≡ true → StepIs settings (CountOrTotal low sum) at l (Ok Nothing)
  unfolding line_fault next_after unless_at
  total_good t e = (rw (t, e), rw t, tt)

  pub total_bad : is_total_line l ≡ true → same_text l (total_line sum) ≡ false → StepIs settings (CountOrTotal low sum) at l (Err (BadCount at))
  unfolding line_fault unless_at
  total_bad t e = rw (t, e)

  pub no_shape : is_total_line l ≡ false → is_count_line settings.letters settings.k l ≡ false → StepIs settings (CountOrTotal low sum) at l (Err (BadLine at))
  unfolding line_fault unless_at
  no_shape t e = rw (t, e)

  module _ (T : ForTable settings) (L : ClassLine settings.letters settings.k l) where
    parts : CountParts settings.letters settings.k l
    parts = count_parts settings.letters settings.k l L.shaped

    bad_count : good_count settings low l ≡ false → StepIs settings (CountOrTotal low sum) at l (Err (BadCount at))
    unfolding line_fault unless_at
    bad_count e = rw (L.no_total, L.shaped, e)

    -- The code is below the number of classes.
    pub code_below : code_in settings l < class_count settings
    code_below = place_below settings.letters settings.k settings.mirror T.good (ranks_in settings.letters settings.k l)
        (word_is settings.letters settings.k settings.mirror T.good (word_in settings.k l) parts.word_long)

    -- What was read of it, right or wrong.
    module _ (q n : ℕ) (own : Bool) (own-is : own ≡ canonical_in settings l) (q_is : q ≡ code_in settings l) (n-is : n ≡ min (count_in settings.k l) 4294967296) where
      right_is : is_right own q n low ≡ good_count settings low l
      unfolding good_count
      right_is =
          let most : leb n 4294967295 ≡ leb (count_in settings.k l) 4294967295 = grind (arith, nat_tests) in
          let some : leb 1 n ≡ leb 1 (count_in settings.k l) = grind (arith, nat_tests) in
          rw (most, some, q_is, own-is)

      pub class_bad : is_right own q n low ≡ false → StepIs settings (CountOrTotal low sum) at l (Err (BadCount at))
      class_bad e = bad_count (sym right_is ∙ e)

      pub class_good : is_right own q n low ≡ true → Bounded (CountOrTotal low sum)
          → StepIs settings (CountOrTotal low sum) at l (Ok (CountOrTotal (q + 1) (sum + n)))
      unfolding line_fault next_after unless_at
      class_good e fits =
          let a = (and-eq-true_iff own (leb low q && (leb 1 n && leb n 4294967295))).0 e in
          let b = (and-eq-true_iff (leb low q) (leb 1 n && leb n 4294967295)).0 a.1 in
          let c = (and-eq-true_iff (leb 1 n) (leb n 4294967295)).0 b.1 in
          let few = leb-true n 4294967295 c.1 in
          let rises = leb-true low q b.0 in
          let count : n ≡ count_in settings.k l = omega arith in
          let next : suc (code_in settings l) ≡ q + 1 = omega arith in (
            rw (L.no_total, L.shaped, sym right_is ∙ e),
            rw (L.no_total, next, ← count),
            (omega (arith, code_below, T.few), omega arith),
          )

module _ (settings : Given) (at : ℕ) (l : List ℕ) where
  pub survey_no_shape : is_survey_line l ≡ false → StepIs settings Survey at l (Err (BadLine at))
  unfolding line_fault unless_at
  survey_no_shape e = rw e

  pub survey_other : is_survey_line l ≡ true → same_text l (survey_line settings) ≡ false → StepIs settings Survey at l (Err (OtherSettings at))
  unfolding line_fault unless_at
  survey_other e f = rw (e, f)

  pub survey_good : is_survey_line l ≡ true → same_text l (survey_line settings) ≡ true → StepIs settings Survey at l (Ok (CountOrTotal 0 0))
  unfolding line_fault next_after unless_at
  survey_good e f = (rw (e, f), refl, (omega arith, omega arith))

  pub none_belongs : StepIs settings Nothing at l (Err (BadLine at))
  unfolding line_fault
  none_belongs = refl
