-- Gathering the letters of a run into an array: what holds at the head of the loop of `gather`, what a turn does to it, and its ends.
use Rattle.std.proofs.Common.{◌≡◌, refl, sym, ap, ◌∙◌, ℕ, zero, suc, ◌+◌, ◌-◌, ◌<◌, ◌≤◌, add-one, arith, Bool, true, false, cond, true≢false, Option, None, Some, List, [], ◌∷◌, ◌++◌, append-nil, length, get_or, take, drop, set, length-set, eqb, eq-eqb, ne_eqb, take-suc-set}
use native.Mathlib.Decide.{ℕ_discrete}
use lib.Seq.{take-set-le}
use Rattle.encoding.specs.Words.{Ranks}
use Rattle.laws.proofs.Each.{each_append}
use Rattle.fasta.specs.declared.Item.{Item}
use Rattle.fasta.specs.declared.Item.TheVariants.{Opens, Skip, Stray, Letter}
use Rattle.fasta.specs.declared.Mode.{Mode}
use Rattle.fasta.specs.Items.{marks}
use Rattle.fasta.specs.File.{lf_next, item, next, items_from}
use Rattle.settings.specs.declared.RankTable.{RankTable}
use Rattle.settings.specs.RankTables.{rank_by_table, RanksBelow}
use Rattle.fasta.proofs.Bytes.{item-cases}
use Rattle.fasta.specs.Needs.{Skips}
use Rattle.fasta.proofs.Scans.{items_step, items_end}
use Rattle.fasta.proofs.Skipping.{marks-skips}
use Rattle.laws.specs.Windows.{windows}
use Rattle.batches.specs.declared.Mark.{Mark}
use Rattle.batches.specs.Needs.{mark_of_rank, mark_of, cut, cut_from, Gathers}
use Rattle.batches.proofs.Cuts.{cut-item}

-- ---- the mark of a byte

-- A byte adds one letter at most.
one_letter : (rank : ℕ → Option ℕ) (it : Item) → (mark_of rank it).letters ≤ 1
one_letter rank Opens = omega arith
one_letter rank Skip = omega arith
one_letter rank Stray = omega arith
one_letter rank (Letter b) = by_rank (rank b)
  where
    by_rank : (o : Option ℕ) → (mark_of_rank o).letters ≤ 1
    by_rank None = omega arith
    by_rank (Some x) = omega arith

abbrev added : (ℕ → Option ℕ) → Item → List ℕ
added rank it = take (mark_of rank it).letters ((mark_of rank it).rank ∷ [])

module _ {s : ℕ} {table : RankTable} (T : RanksBelow s table) (b : ℕ) (byte : b < 256) where
  letter_rank : (o : Option ℕ) → rank_by_table table b ≡ o → Ranks s (take (mark_of_rank o).letters ((mark_of_rank o).rank ∷ []))
  letter_rank None e = tt
  letter_rank (Some x) e = (T.below b x byte e, tt)

  -- The letter that a byte adds is a rank below s.
  item_rank : (mode : Mode) (lf : Bool) → Ranks s (added (rank_by_table table) (item mode b lf))
  item_rank mode lf =
      item-cases (λ (it : Item). Ranks s (added (rank_by_table table) it)) mode b lf tt tt tt (λ e. letter_rank (rank_by_table table b) refl)

-- A letter written behind the first n of the array, or none.
put : (array : List ℕ) (n x l : ℕ) → l ≤ 1 → n < length array → take (n + l) (set array n x) ≡ take n array ++ take l (x ∷ [])
put array n x zero h g =
    let e : n + 0 ≡ n = omega arith in
    rw (e, take-set-le n array n x (omega arith)) (sym (append-nil (take n array)))
put array n x (suc zero) h g = rw (add-one n) (take-suc-set array n x g)
put array n x (suc (suc l)) h g = absurd (omega arith)

-- ---- the loop

-- The byte of the file at a place was read in a mode: what it does to the run, and the mode after it.
pub record ByteRead (table : RankTable) (file : List ℕ) (at : ℕ) (mode : Mode) (mark : Mark) (mode' : Mode) : Type 0 where
  pub more : at < length file
  pub mark_is : mark ≡ mark_of (rank_by_table table) (item mode (get_or file at 0) (lf_next (drop (at + 1) file)))
  pub mode_is : mode' ≡ next mode (get_or file at 0)

pub byte_read : {table : RankTable} {file : List ℕ} {at : ℕ} {mode : Mode} {it : Item} {mark : Mark} {mode' : Mode} → at < length file
    → it ≡ item mode (get_or file at 0) (lf_next (drop (at + 1) file))
    → mark ≡ mark_of (rank_by_table table) it
    → mode' ≡ next mode (get_or file at 0)
    → ByteRead table file at mode mark mode'
byte_read {table} h i m n = record { more = h; mark_is = m ∙ ap (mark_of (rank_by_table table)) i; mode_is = n }

pub record Gathering (table : RankTable) (r file : List ℕ) (start : Mode) (from letters : ℕ) (array : List ℕ) (at : ℕ) (mode : Mode) (n : ℕ) : Type 0 where
  pub begun : from ≤ at
  pub untouched : at ≡ from → n ≡ letters
  pub inside : at ≤ length file
  pub fits : n ≤ length array
  pub ranks : (s : ℕ) → RanksBelow s table → Ranks s r → Ranks s (take n array)
  pub left : (k : ℕ) → cut_from (rank_by_table table) k r file start from ≡ cut_from (rank_by_table table) k (take n array) file mode at

-- Bytes that are skipped add nothing.
pub skip_on : {table : RankTable} {r file : List ℕ} {start : Mode} {from letters : ℕ} {array : List ℕ} {at e : ℕ} {mode : Mode} {n : ℕ}
    → Gathering table r file start from letters array at mode n → Skips file mode at e → Gathering table r file start from letters array e mode n
skip_on {table = table} {file = file} {array = array} {at = at} {e = e} {mode = mode} {n = n} G J =
    record {
      begun = omega (arith, G.begun, J.on);
      untouched = λ f. G.untouched (omega (arith, G.begun, J.on));
      inside = J.inside;
      fits = G.fits;
      ranks = G.ranks;
      left = λ k. G.left k
          ∙ ap (cut k (take n array)) (ap (marks (rank_by_table table)) J.skipped ∙ marks-skips (rank_by_table table) (e - at) (items_from mode (drop e file)));
    }

module _ {table : RankTable} {r file : List ℕ} {start : Mode} {from letters : ℕ} {array : List ℕ} {at : ℕ} {mode : Mode} {n : ℕ}
    (G : Gathering table r file start from letters array at mode n) where
  gathered_full : letters < length array → length array ≤ n
      → Gathers table r file start from (record { at = at; mode = mode; letters = n; ended = false }) array
  gathered_full room full =
      record {
        on =
            elim (ℕ_discrete at from) as (λ _. from < at) [
              | yes e ↦ let same = G.untouched e in absurd (omega arith)
              | no e ↦ omega (arith, G.begun)
            ];
        inside = G.inside;
        fits = G.fits;
        ranks = G.ranks;
        windows_are = G.left;
        whole = λ _. omega (arith, G.fits);
      }

  gathered_all : from < length file → at ≡ length file
      → Gathers table r file start from (record { at = at; mode = mode; letters = n; ended = true }) array
  unfolding cut windows marks
  gathered_all more end =
      record {
        on = omega arith;
        inside = G.inside;
        fits = G.fits;
        ranks = G.ranks;
        windows_are = λ k. G.left k ∙ rw (items_end file at mode (omega arith), append-nil (windows k (take n array)));
        whole = λ e. absurd (true≢false e);
      }

  -- The file ended, or the array is full and the run goes on.
  pub gathered_end : letters < length array → from < length file → {at' : ℕ} → at' ≡ at → (at < length file → length array ≤ n)
      → Gathers table r file start from (record { at = at'; mode = mode; letters = n; ended = eqb at' (length file) }) array
  gathered_end room more {at'} e full =
      elim (ℕ_discrete at (length file)) as
      (λ _. Gathers table r file start from (record { at = at'; mode = mode; letters = n; ended = eqb at' (length file) }) array) [
        | yes end ↦ rw (e, eq-eqb at (length file) end) (gathered_all more end)
        | no ne ↦ rw (e, ne_eqb at (length file) ne) (gathered_full room (full (omega (arith, G.inside))))
      ]

  module _ {mark : Mark} {mode' : Mode} (R : ByteRead table file at mode mark mode') where
    after : (k : ℕ) → cut_from (rank_by_table table) k r file start from
        ≡ cond mark.ends (windows k (take n array) ++ cut_from (rank_by_table table) k [] file mode' (at + 1))
        (cut_from (rank_by_table table) k (take n array ++ take mark.letters (mark.rank ∷ [])) file mode' (at + 1))
    after k =
        G.left k
        ∙ ap (λ (is : List Item). cut k (take n array) (marks (rank_by_table table) is)) (items_step file at mode R.more)
        ∙ cut-item (rank_by_table table) k (take n array) (item mode (get_or file at 0) (lf_next (drop (at + 1) file)))
        (items_from (next mode (get_or file at 0)) (drop (at + 1) file))
        ∙ rw (R.mark_is, R.mode_is)

    pub adds_one : mark.letters ≤ 1
    adds_one = rw R.mark_is (one_letter (rank_by_table table) (item mode (get_or file at 0) (lf_next (drop (at + 1) file))))

    -- The run ended.
    pub gathered_run : mark.ends ≡ true
        → Gathers table r file start from (record { at = at + 1; mode = mode'; letters = n; ended = true }) array
    gathered_run e =
        record {
          on = omega (arith, G.begun);
          inside = omega arith;
          fits = G.fits;
          ranks = G.ranks;
          windows_are = λ k. after k ∙ rw e;
          whole = λ f. absurd (true≢false f);
        }

    new_rank : get_or file at 0 < 256 → (s : ℕ) → RanksBelow s table → Ranks s (take mark.letters (mark.rank ∷ []))
    new_rank byte s T = rw R.mark_is (item_rank T (get_or file at 0) byte mode (lf_next (drop (at + 1) file)))

    -- One byte more.
    pub gathers_on : get_or file at 0 < 256 → n < length array → mark.ends ≡ false
        → Gathering table r file start from letters (set array n mark.rank) (at + 1) mode' (n + mark.letters)
    gathers_on byte room e =
        let p = put array n mark.rank mark.letters adds_one room in
        record {
          begun = omega (arith, G.begun);
          untouched = λ f. absurd (omega (arith, G.begun));
          inside = omega arith;
          fits = rw (length-set array n mark.rank) (omega (arith, adds_one));
          ranks = λ s T R. rw p (each_append (λ (x : ℕ). x < s) (take n array) (take mark.letters (mark.rank ∷ [])) (G.ranks s T R) (new_rank byte s T));
          left = λ k. after k ∙ rw (e, p);
        }
