-- One less for each of some codes, as far as the counts allow: what holds at the head of the loop, what a turn does to it, where it stops; and ground 18:
-- where not all were taken some count was too low, and counting again what was taken leaves the counts as they were. From the laws of counts in tally_book.
use Rattle.std.proofs.Common.{◌≡◌, refl, sym, ap, ◌∙◌, ℕ, suc, ◌+◌, ◌-◌, ◌<◌, ◌≤◌, add-one, arith, Bool, true, false, cond, List, [], ◌∷◌, ◌++◌, eqb, length, get_or, take, drop, take-append-drop, take-suc, take_all, eqb-true, eq-eqb}
use Rattle.laws.specs.Each.{Each}
use Rattle.laws.proofs.Each.{each_at}
use Rattle.tally_book.specs.Table.{change, one_less, changes, one_more, occurrences}
use Rattle.tally_book.specs.Needs.{Below}
use Rattle.tally_book.proofs.Changes.{length_changes, get_d_less, changes_append, occurrences-append, restored}
use Rattle.tally_book.proofs.Lacks.{none_lacking, lacking_at}
use Rattle.counts.specs.declared.Way.TheVariants.{Out}
use Rattle.counts.specs.Needs.{Fits, Enough, Changed, TakenUnlessLacking}

pub record TakingOn (counts₀ codes counts : List ℕ) (i : ℕ) : Type 0 where
  pub upto : i ≤ length codes
  pub leaves : counts ≡ changes one_less counts₀ (take i codes)
  pub enough : Enough (take i codes) counts₀
  pub below : Each (Below (length counts₀)) codes

pub taking_none : (counts codes : List ℕ) → Each (Below (length counts)) codes → TakingOn counts codes counts 0
unfolding changes occurrences
taking_none counts codes B = record { upto = omega arith; leaves = refl; enough = record { at = λ q h. omega arith }; below = B }

module _ {counts₀ codes counts : List ℕ} {i : ℕ} (D : TakingOn counts₀ codes counts i) where
  pub same_length : length counts ≡ length counts₀
  same_length = ap length D.leaves ∙ length_changes one_less (take i codes) counts₀

  -- What is left at a place is what was there, less how often it was named.
  left_at : (q : ℕ) → q < length counts₀ → get_or counts q 0 ≡ get_or counts₀ q 0 - occurrences q (take i codes)
  left_at q g = rw D.leaves (get_d_less (take i codes) counts₀ q g)

  module _ (h : i < length codes) where
    pub code_below : get_or codes i 0 < length counts
    code_below = omega (arith, each_at (Below (length counts₀)) codes i D.below h, same_length)

    pub takes_on : (new : List ℕ) → 0 < get_or counts (get_or codes i 0) 0 → new ≡ change one_less counts (get_or codes i 0) → TakingOn counts₀ codes new (i + 1)
    unfolding changes occurrences
    takes_on new some e =
        let q : ℕ = get_or codes i 0 in
        let more : take (i + 1) codes ≡ take i codes ++ (q ∷ []) = rw (add-one i) (take-suc codes i 0 h) in
        record {
          upto = omega arith;
          leaves = e ∙ rw D.leaves (sym (changes_append one_less counts₀ (take i codes) (q ∷ []))) ∙ sym (ap (changes one_less counts₀) more);
          enough = record { at = λ p g. rw (more, occurrences-append p (take i codes) (q ∷ [])) (go p g (eqb p q) refl) };
          below = D.below;
        }
      where
        go : (p : ℕ) → p < length counts₀ → (b : Bool) → eqb p (get_or codes i 0) ≡ b → occurrences p (take i codes) + (cond b 1 0 + 0) ≤ get_or counts₀ p 0
        go p g true f =
            let same : p ≡ get_or codes i 0 = eqb-true p (get_or codes i 0) f in
            let left : 0 < get_or counts p 0 = rw same some in
            omega (arith, left_at p g)
        go p g false f = omega (arith, D.enough.at p g)

-- ---- ground 18

-- A limit that is the number of codes leaves none out.
pub of_all : {counts codes counts' : List ℕ} {limit r : ℕ} → limit ≡ length codes → Changed Out counts (take limit codes) r counts'
    → Changed Out counts codes r counts'
of_all {codes = codes} {limit} e C = rw (take_all limit codes (omega arith)) at C

-- Where all were taken, each count was high enough for all.
enough_for_all : {counts codes counts' : List ℕ} {r : ℕ} → Changed Out counts codes r counts' → r ≡ length codes
    → Enough codes counts × (counts' ≡ changes one_less counts codes)
enough_for_all {counts} {codes} {r = r} L e =
    let all : take r codes ≡ codes = take_all r codes (omega arith) in
    (rw all at (L.enough refl), L.leaves ∙ rw all)

-- Where not all were taken, some class has a smaller count than it is named.
too_few : {counts codes counts' : List ℕ} {r : ℕ} → Changed Out counts codes r counts' → r < length codes
    → (q : ℕ) × (q < length counts) × (get_or counts q 0 < occurrences q codes)
unfolding occurrences
too_few {counts} {codes} {counts'} {r} L h =
    let q : ℕ = get_or codes r 0 in
    let lt : q < length counts = omega (arith, (L.stopped h).inside, ap length L.leaves, length_changes one_less (take r codes) counts) in
    let z : get_or counts q 0 - occurrences q (take r codes) ≡ 0 =
    sym (get_d_less (take r codes) counts q lt) ∙ ap (λ (t : List ℕ). get_or t q 0) (sym L.leaves) ∙ (L.stopped h).zero in
    let n : occurrences q codes ≡ occurrences q (take (suc r) codes) + occurrences q (drop (suc r) codes) =
    ap (occurrences q) (sym (take-append-drop (suc r) codes)) ∙ occurrences-append q (take (suc r) codes) (drop (suc r) codes) in
    let m : occurrences q (take (suc r) codes) ≡ occurrences q (take r codes) + (cond (eqb q q) 1 0 + 0) =
    ap (occurrences q) (take-suc codes r 0 h) ∙ occurrences-append q (take r codes) (q ∷ []) in
    let one : ◌≡◌ {A = ℕ} (cond (eqb q q) 1 0) 1 = rw (eq-eqb q q refl) in
    (q, lt, omega (arith, (L.enough refl).at q lt))

-- And to count again what was taken leaves the counts as they were.
taken_restored : {counts codes counts' : List ℕ} {r : ℕ} → Changed Out counts codes r counts' → changes one_more counts' (take r codes) ≡ counts
taken_restored {counts} {codes} {r = r} L = rw L.leaves (restored counts (take r codes) (L.enough refl).at)

-- There is room for that, the counts being numbers of 32 bits.
pub restore_fits : {counts codes counts' : List ℕ} {r : ℕ} → Changed Out counts codes r counts' → ((q : ℕ) → get_or counts q 0 ≤ 4294967295)
    → Fits (take r codes) counts'
restore_fits {counts} {codes} {counts'} {r} L small =
    record {
      at = λ q h.
          let lt : q < length counts = omega (arith, ap length L.leaves, length_changes one_less (take r codes) counts) in
          let left : get_or counts' q 0 ≡ get_or counts q 0 - occurrences q (take r codes) = rw L.leaves (get_d_less (take r codes) counts q lt) in
          omega (arith, left, (L.enough refl).at q lt, small q);
    }

-- All were taken, and no count was too low.
pub took-all : {counts codes counts' : List ℕ} {r : ℕ} → Changed Out counts codes r counts' → r ≡ length codes → TakenUnlessLacking counts codes false counts'
took-all {counts} {codes} {counts'} L e =
    let (enough, leaves) = enough_for_all L e in
    let none_lacks = none_lacking counts codes enough.at in
    record { answers = sym none_lacks; leaves = leaves ∙ rw none_lacks }

-- Not all were taken: some count was too low, and what was taken is put back.
pub lacking_restored : {counts codes counts' counts'' : List ℕ} {r : ℕ} → Changed Out counts codes r counts' → (r ≡ length codes → ⊥)
    → counts'' ≡ changes one_more counts' (take r codes)
    → TakenUnlessLacking counts codes true counts''
lacking_restored {counts} {codes} {r = r} L ne e =
    let less : r < length codes = omega (arith, L.upto) in
    let (q, h, low) = too_few L less in
    let some-lacks = lacking_at counts codes q h low in
    record { answers = sym some-lacks; leaves = e ∙ taken_restored L ∙ rw some-lacks }
