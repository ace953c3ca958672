-- A walk over a file's windows, batch by batch: so many codes are done, and what is left of them is what the rest of the file gives.
use Rattle.std.proofs.Common.{◌≡◌, refl, sym, ap, ◌∙◌, ℕ, ◌+◌, ◌-◌, ◌<◌, ◌≤◌, arith, Bool, true, false, cond, List, [], ◌++◌, length, get_or, take, drop, length-append, length-drop, drop_at, drop-drop, take-add, length-take-le, get_or-drop}
use mathlib.Core.List.{map-append}
use lib.ListN.{get_or-append}
use lib.Seq.{take-append-le}
use Rattle.settings.proofs.Limits.{k_at_most}
use Rattle.encoding.specs.Words.{Ranks}
use Rattle.encoding.specs.Codes.{code}
use Rattle.encoding.proofs.Ends.{ranks_drop}
use Rattle.fasta.specs.declared.Mode.{Mode}
use Rattle.fasta.specs.Items.{marks}
use Rattle.fasta.specs.File.{items_from}
use Rattle.settings.specs.RankTables.{rank_by_table}
use Rattle.fasta.proofs.Scans.{items_end}
use Rattle.kernels.specs.declared.Coder.{Coder}
use Rattle.laws.specs.Windows.{windows}
use Rattle.windows.proofs.Windows.{length_codes}
use Rattle.laws.proofs.Lists.{length-take}
use Rattle.laws.proofs.Windows.{windows-none}
use Rattle.batches.specs.declared.Gathered.{Gathered}
use Rattle.batches.specs.Needs.{codes_by, codes_of_file, cut, cut_from, cut_after, Gathers, Carries}
use Rattle.batches.proofs.Cuts.{cut_all, cut_batch}

pub record Walking (c : Coder) (file all array : List ℕ) (at : ℕ) (mode : Mode) (n done : ℕ) : Type 0 where
  pub few : n < c.k
  pub ranks : Ranks c.s (take n array)
  pub upto : done ≤ length all
  pub left : drop done all ≡ codes_by c (cut_from (rank_by_table c.ranks) c.k (take n array) file mode at)

module _ (c : Coder) where
  pub short_words : c.k ≤ 62
  short_words = k_at_most c.limits

  pub walking_none : (file : List ℕ) (start : Mode) (array : List ℕ) → Walking c file (codes_of_file c file start) array 0 start 0 0
  walking_none file start array =
      record {
        few = omega (arith, c.some);
        ranks = tt;
        upto = omega arith;
        left = rw (cut_all c.k (marks (rank_by_table c.ranks) (items_from start file)) c.some);
      }

  module _ {file all array : List ℕ} {at : ℕ} {mode : Mode} {n done : ℕ} (W : Walking c file all array at mode n done) where
    -- Nothing is left at the file's end.
    pub walked_all : length file ≤ at → done ≡ length all
    unfolding cut marks
    walked_all end =
        let l : length (take n array) < c.k = omega (arith, length-take n array, W.few) in
        let none_left : drop done all ≡ [] = W.left ∙ rw (items_end file at mode end, windows-none c.k (take n array) l) in
        omega (arith, ap length none_left, length-drop done all, W.upto)

    module _ {g : Gathered} {array₁ : List ℕ} (G : Gathers c.ranks (take n array) file mode at g array₁) (size₁ : length array₁ ≡ 1024) where
      abbrev batch : List ℕ
      batch = take g.letters array₁

      abbrev codes : List ℕ
      codes = codes_by c (windows c.k batch)

      abbrev kept : Bool → List ℕ
      kept ended = cond ended [] (drop (g.letters + 1 - c.k) batch)

      abbrev later : List (List ℕ)
      later = cut_from (rank_by_table c.ranks) c.k (kept g.ended) file g.mode g.at

      letters_length : length batch ≡ g.letters
      letters_length = length-take-le g.letters array₁ G.fits

      pub long_enough : g.ended ≡ false → c.k ≤ g.letters + 1
      long_enough e = omega (arith, G.whole e, size₁, short_words)

      batch_ranks : Ranks c.s batch
      batch_ranks = G.ranks c.s c.ranks_below W.ranks

      -- How many codes the batch has.
      pub batch_count : length codes ≡ g.letters + 1 - c.k
      batch_count = length_codes c.k c.some (code c.s c.mirror c.k) batch ∙ ap (λ (i : ℕ). i + 1 - c.k) letters_length

      after_batch : (ended : Bool) → (ended ≡ false → c.k ≤ g.letters + 1)
          → cut_after ended (rank_by_table c.ranks) c.k batch file g.mode g.at
          ≡ windows c.k batch ++ cut_from (rank_by_table c.ranks) c.k (kept ended) file g.mode g.at
      after_batch true h = refl
      after_batch false h =
          let l = letters_length in
          let some_left = h refl in
          cut_batch c.k c.some (marks (rank_by_table c.ranks) (items_from g.mode (drop g.at file))) batch (omega arith)
          ∙ ap (λ (i : ℕ). windows c.k batch ++ cut_from (rank_by_table c.ranks) c.k (drop (i + 1 - c.k) batch) file g.mode g.at) l

      -- What is left is the codes of the batch and those that come after it.
      left_is : drop done all ≡ codes ++ codes_by c later
      left_is =
          W.left
          ∙ ap (codes_by c) (G.windows_are c.k
          ∙ after_batch g.ended long_enough)
          ∙ map-append (code c.s c.mirror c.k) (windows c.k batch) later

      pub batch_fits : done + length codes ≤ length all
      batch_fits = omega (arith, ap length left_is, length-append codes (codes_by c later), length-drop done all, W.upto)

      -- The next code behind r of the batch.
      pub next_code : (r : ℕ) → r < length codes → get_or all (done + r) 0 ≡ get_or codes r 0
      next_code r h =
          sym (get_or-drop done all r 0) ∙ ap (λ (x : List ℕ). get_or x r 0) left_is ∙ get_or-append codes (codes_by c later) 0 r h

      -- The codes done so far and r of the batch.
      pub done_and : (r : ℕ) → r ≤ length codes → take (done + r) all ≡ take done all ++ take r codes
      done_and r h =
          take-add done r all
          ∙ ap (λ (x : List ℕ). take done all ++ take r x) left_is
          ∙ ap (λ (x : List ℕ). take done all ++ x) (take-append-le r codes (codes_by c later) h)

      pub walks_on : {array₂ : List ℕ} {n₂ : ℕ} → Carries array₁ g.letters c.k g.ended n₂ array₂
          → Walking c file all array₂ g.at g.mode n₂ (done + length codes)
      walks_on Y =
          record {
            few = Y.few;
            ranks = rw Y.letters (kept_ranks g.ended);
            upto = batch_fits;
            left = step ∙ rw Y.letters;
          }
        where
          kept_ranks : (ended : Bool) → Ranks c.s (kept ended)
          kept_ranks true = tt
          kept_ranks false = ranks_drop c.s (g.letters + 1 - c.k) batch batch_ranks

          step : drop (done + length codes) all ≡ codes_by c later
          step =
              sym (drop-drop (length codes) done all) ∙ ap (drop (length codes)) left_is ∙ drop_at codes (codes_by c later) (length codes) refl
