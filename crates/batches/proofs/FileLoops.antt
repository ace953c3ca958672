-- A file's windows counted or taken away, batch by batch: what holds at the head of the loop of `change_file`, beside the walk, and what each way out of it
-- leaves. From the laws of the walk (Walks) and of the counts (tally_book).
use Rattle.std.proofs.Common.{◌≡◌, refl, sym, ap, subst, ◌∙◌, ℕ, ◌+◌, ◌-◌, ◌<◌, ◌≤◌, min, arith, List, length, get_or, take, take_all, take-take, get_or-take}
use Rattle.fasta.specs.declared.Mode.{Mode}
use Rattle.kernels.specs.declared.Coder.{Coder}
use Rattle.laws.specs.Windows.{windows}
use Rattle.laws.proofs.Lists.{take_min, length-take}
use Rattle.tally_book.specs.Table.{changes, occurrences}
use Rattle.tally_book.proofs.Changes.{length_changes, changes_append, get_d_less, occurrences-append}
use Rattle.counts.specs.declared.Way.{Way}
use Rattle.counts.specs.declared.Way.TheVariants.{In, Out}
use Rattle.batches.specs.declared.Gathered.{Gathered}
use Rattle.counts.specs.Needs.{by_way, Fits, Enough, NoneLeft, Changed}
use Rattle.batches.specs.Needs.{codes_by, codes_of_file, Gathers, Carries}
use Rattle.counts.proofs.CountLoops.{fits_after, fits_fewer}
use Rattle.batches.proofs.Walks.{Walking, walking_none, walked_all, batch_fits, next_code, done_and, walks_on}

pub record Changing (c : Coder) (file : List ℕ) (start : Mode) (counts₀ : List ℕ) (way : Way) (limit : ℕ) (counts array : List ℕ) (at : ℕ) (mode : Mode)
    (n done : ℕ) : Type 0 where
  pub walk : Walking c file (codes_of_file c file start) array at mode n done
  pub within : done ≤ limit
  pub leaves : counts ≡ changes (by_way way) counts₀ (take done (codes_of_file c file start))
  pub enough : way ≡ Out → Enough (take done (codes_of_file c file start)) counts₀
  pub room : way ≡ In → Fits (take limit (codes_of_file c file start)) counts₀

-- Counts on the way in and on the way out, the way being known.
by_way_lem : {way way' : Way} {counts : List ℕ} (counts₀ qs : List ℕ) → way ≡ way' → counts ≡ changes (by_way way) counts₀ qs
    → counts ≡ changes (by_way way') counts₀ qs
by_way_lem {counts = counts} counts₀ qs e h = subst (λ (w : Way). counts ≡ changes (by_way w) counts₀ qs) e h

-- A number up to the length of the first `limit` elements of a list is at most `limit` and at most the list's length.
at_most : (limit r : ℕ) (l : List ℕ) → r ≤ length (take limit l) → (r ≤ limit) × (r ≤ length l)
at_most limit r l h = let n = length-take limit l in (omega arith, omega arith)

module _ (c : Coder) where
  pub changing_none : (file : List ℕ) (start : Mode) (counts : List ℕ) (way : Way) (limit : ℕ) (array : List ℕ)
      → (way ≡ In → Fits (take limit (codes_of_file c file start)) counts)
      → Changing c file start counts way limit counts array 0 start 0 0
  unfolding changes occurrences
  changing_none file start counts way limit array room =
      record {
        walk = walking_none c file start array;
        within = omega arith;
        leaves = refl;
        enough = λ _. record { at = λ q h. omega arith };
        room = room;
      }

  module _ {file : List ℕ} {start : Mode} {counts₀ : List ℕ} {way : Way} {limit : ℕ} {counts array : List ℕ} {at : ℕ} {mode : Mode} {n done : ℕ}
      (K : Changing c file start counts₀ way limit counts array at mode n done) where
    abbrev all : List ℕ
    all = codes_of_file c file start

    pub same_length : length counts ≡ length counts₀
    same_length = ap length K.leaves ∙ length_changes (by_way way) (take done all) counts₀

    -- The file has ended: all its windows were counted or taken away.
    pub changed_all : length file ≤ at → Changed way counts₀ (take limit all) done counts
    changed_all end =
        let e : done ≡ length all = walked_all c K.walk end in
        let whole : take limit all ≡ all = take_all limit all (omega (arith, K.within)) in
        let asked : take done (take limit all) ≡ take done all = take-take done limit all K.within in
        record {
          upto = omega (arith, ap length whole);
          leaves = K.leaves ∙ ap (changes (by_way way) counts₀) (sym asked);
          enough = λ out. subst (λ (l : List ℕ). Enough l counts₀) (sym asked) (K.enough out);
          stopped = λ h. absurd (omega (arith, ap length whole));
        }

    module _ {g : Gathered} {array₁ : List ℕ} (G : Gathers c.ranks (take n array) file mode at g array₁) (size₁ : length array₁ ≡ 1024) where
      abbrev codes : List ℕ
      codes = codes_by c (windows c.k (take g.letters array₁))

      pub batch_room : way ≡ In → Fits (take (limit - done) codes) counts
      batch_room e =
          let r : ℕ = min (limit - done) (length codes) in
          let F : Fits (take (done + r) all) counts₀ = fits_fewer counts₀ all (done + r) limit (omega (arith, K.within)) (K.room e) in
          let first = done_and c K.walk G size₁ r (omega arith) in
          rw (← take_min (limit - done) codes, by_way_lem counts₀ (take done all) e K.leaves) (fits_after counts₀ (take done all) (take r codes) (rw first at F))

      module _ {counts₁ : List ℕ} {r : ℕ} (R : Changed way counts (take (limit - done) codes) r counts₁) where
        few : (r ≤ limit - done) × (r ≤ length codes)
        few = at_most (limit - done) r codes R.upto

        pub within_limit : done + r ≤ limit
        within_limit = omega (arith, few.0, K.within)

        asked : take r (take (limit - done) codes) ≡ take r codes
        asked = take-take r (limit - done) codes few.0

        leaves_more : counts₁ ≡ changes (by_way way) counts₀ (take (done + r) all)
        leaves_more =
            R.leaves
            ∙ ap (changes (by_way way) counts) asked
            ∙ ap (λ (x : List ℕ). changes (by_way way) x (take r codes)) K.leaves
            ∙ sym (changes_append (by_way way) counts₀ (take done all) (take r codes))
            ∙ ap (changes (by_way way) counts₀) (sym (done_and c K.walk G size₁ r few.1))

        enough_more : way ≡ Out → Enough (take (done + r) all) counts₀
        enough_more out =
            record {
              at = λ q h.
                  let left : get_or counts q 0 ≡ get_or counts₀ q 0 - occurrences q (take done all) =
                  rw (by_way_lem counts₀ (take done all) out K.leaves) (get_d_less (take done all) counts₀ q h) in
                  let taken : occurrences q (take r codes) ≤ get_or counts q 0 = rw asked at ((R.enough out).at q (omega (arith, same_length))) in
                  rw (done_and c K.walk G size₁ r few.1, occurrences-append q (take done all) (take r codes))
                  (omega (arith, left, (K.enough out).at q h));
            }

        -- Not all of the batch was counted or taken away: the limit is reached, or no count is left.
        pub changes_stop : r < length codes → Changed way counts₀ (take limit all) (done + r) counts₁
        changes_stop h =
            let same : take (done + r) (take limit all) ≡ take (done + r) all = take-take (done + r) limit all within_limit in
            record {
              upto = omega (arith, length-take limit all, batch_fits c K.walk G size₁, few.1, within_limit);
              leaves = leaves_more ∙ ap (changes (by_way way) counts₀) (sym same);
              enough = λ out. subst (λ (l : List ℕ). Enough l counts₀) (sym same) (enough_more out);
              stopped = λ l.
                  let more : r < limit - done = omega (arith, length-take limit all) in
                  let next : get_or (take limit all) (done + r) 0 ≡ get_or (take (limit - done) codes) r 0 =
                  get_or-take limit all (done + r) 0 (omega arith)
                  ∙ next_code c K.walk G size₁ r h
                  ∙ sym (get_or-take (limit - done) codes r 0 more) in
                  subst (NoneLeft way counts₁) (sym next) (R.stopped (omega (arith, length-take (limit - done) codes)));
            }

        pub changes_on : {array₂ : List ℕ} {n₂ : ℕ} → length codes ≤ r → Carries array₁ g.letters c.k g.ended n₂ array₂
            → Changing c file start counts₀ way limit counts₁ array₂ g.at g.mode n₂ (done + r)
        changes_on {array₂} {n₂} h Y =
            let e : length codes ≡ r = omega (arith, few.1) in
            record {
              walk = rw e at (walks_on c K.walk G size₁ Y);
              within = within_limit;
              leaves = leaves_more;
              enough = enough_more;
              room = K.room;
            }
