-- Counts that grow and fall. Places that are named change and later ones stay, whatever is made of a count. A count grows by how often its place is named, and
-- the sum of the counts by how many places are named; it falls by how often its place is named, as far as 0; what was taken away and is counted again is as
-- it was, and what was counted and is taken away again too. From the definitions `change`, `changes`, `one_more`, `one_less` (specs/Table.antt) and `sum`
-- (specs/Demand.antt), and the library's laws of `set`.
use Rattle.std.proofs.Common.{◌≡◌, refl, sym, ap, ◌∙◌, ℕ, zero, suc, ◌+◌, ◌-◌, ◌≤◌, ◌<◌, arith, Bool, true, false, cond, List, [], ◌∷◌, ◌++◌, length, take, drop, get_or, set, length-set, take-append-drop, get_or-set_same, get_or-set_other, drop-set-lt, length-take-le, get_or-take, ext_get_or, eqb, eqb-true}
use native.Mathlib.Decide.{dec_le}
use lib.Seq.{take-set-lt}
use borrow.Author.Tests.{eqb-false}
use Rattle.tally_book.specs.Table.{change, changes, one_more, one_less, occurrences}
use Rattle.tally_book.specs.Demand.{sum}
use Rattle.laws.specs.Each.{Each}
use Rattle.tally_book.specs.Needs.{Below}

-- How often a place is named in two parts.
pub occurrences-append : (q : ℕ) (ps qs : List ℕ) → occurrences q (ps ++ qs) ≡ occurrences q ps + occurrences q qs
unfolding occurrences
occurrences-append q [] qs = omega arith
occurrences-append q (p ∷ ps) qs = omega (arith, occurrences-append q ps qs)

-- A place is not named among places below it.
unnamed : (n q : ℕ) (qs : List ℕ) → Each (Below n) qs → n ≤ q → occurrences q qs ≡ 0
unfolding occurrences
unnamed n q [] h g = refl
unnamed n q (p ∷ qs) h g = go (eqb q p) refl (unnamed n q qs h.1 g)
  where
    go : (b : Bool) → eqb q p ≡ b → occurrences q qs ≡ 0 → cond b 1 0 + occurrences q qs ≡ 0
    go true e ih = let same : q ≡ p = eqb-true q p e in let below : p < n = h.0 in absurd (omega arith)
    go false e ih = omega arith

-- ---- whatever is made of a count

module _ (f : ℕ → ℕ) where
  -- No length changes.
  pub length_changes : (qs t : List ℕ) → length (changes f t qs) ≡ length t
  unfolding changes change
  length_changes [] t = refl
  length_changes (q ∷ qs) t = length_changes qs (change f t q) ∙ simp length-set

  -- One place changed: that place, and another.
  get_d_change : (t : List ℕ) (p q : ℕ) (b : Bool) → q < length t → eqb q p ≡ b → get_or (change f t p) q 0 ≡ cond b (f (get_or t q 0)) (get_or t q 0)
  unfolding change
  get_d_change t p q true h e =
      let same : q ≡ p = eqb-true q p e in
      rw (← same) (get_or-set_same t q (f (get_or t q 0)) 0 h)
  get_d_change t p q false h e = get_or-set_other t p q (f (get_or t p 0)) 0 (eqb-false q p e)

  -- Places from n on stay where those named are below n.
  pub drop_changes : (n : ℕ) (qs t : List ℕ) → Each (Below n) qs → drop n (changes f t qs) ≡ drop n t
  unfolding changes change
  drop_changes n [] t h = refl
  drop_changes n (q ∷ qs) t h = drop_changes n qs (change f t q) h.1 ∙ drop-set-lt n t q (f (get_or t q 0)) h.0

  -- Changing some places and then others is changing all of them.
  pub changes_append : (t ps qs : List ℕ) → changes f t (ps ++ qs) ≡ changes f (changes f t ps) qs
  unfolding changes
  changes_append t [] qs = refl
  changes_append t (p ∷ ps) qs = changes_append (change f t p) ps qs

  -- Changing the first n places alone, the others put behind them, is changing in all.
  pub changes_front : (n : ℕ) (t qs : List ℕ) → Each (Below n) qs → changes f (take n t) qs ++ drop n t ≡ changes f t qs
  unfolding changes change
  changes_front n t [] a = take-append-drop n t
  changes_front n t (q ∷ qs) a =
      let e : change f (take n t) q ≡ take n (change f t q) = sym (take-set-lt n t q (f (get_or t q 0)) a.0 ∙ rw (get_or-take n t q 0 a.0)) in
      let d : drop n t ≡ drop n (change f t q) = sym (drop-set-lt n t q (f (get_or t q 0)) a.0) in
      ap (λ (x : List ℕ). changes f x qs ++ drop n t) e
      ∙ ap (λ (x : List ℕ). changes f (take n (change f t q)) qs ++ x) d
      ∙ changes_front n (change f t q) qs a.1

-- ---- one more

-- A place grows by how often it is named.
pub get_d_more : (qs t : List ℕ) (q : ℕ) → q < length t → get_or (changes one_more t qs) q 0 ≡ get_or t q 0 + occurrences q qs
unfolding changes one_more occurrences
get_d_more [] t q h = omega arith
get_d_more (p ∷ qs) t q h =
    let kept : length (change one_more t p) ≡ length t = length_changes one_more (p ∷ []) t in
    go (eqb q p) (get_d_change one_more t p q (eqb q p) h refl) (get_d_more qs (change one_more t p) q (omega arith))
  where
    go : (b : Bool) → get_or (change one_more t p) q 0 ≡ cond b (one_more (get_or t q 0)) (get_or t q 0)
        → get_or (changes one_more (change one_more t p) qs) q 0 ≡ get_or (change one_more t p) q 0 + occurrences q qs
        → get_or (changes one_more (change one_more t p) qs) q 0 ≡ get_or t q 0 + (cond b 1 0 + occurrences q qs)
    go true e ih = omega arith
    go false e ih = omega arith

sum-set : (t : List ℕ) (q : ℕ) → q < length t → sum (set t q (get_or t q 0 + 1)) ≡ suc (sum t)
unfolding sum
sum-set [] q h = absurd (omega arith)
sum-set (x ∷ t) zero h = omega arith
sum-set (x ∷ t) (suc q) h = omega (arith, sum-set t q (omega arith))

sum-one_more : (n : ℕ) (t : List ℕ) (q : ℕ) → q < n → n ≤ length t → sum (take n (change one_more t q)) ≡ suc (sum (take n t))
unfolding change one_more
sum-one_more n t q h g =
    rw (take-set-lt n t q (get_or t q 0 + 1) h, ← get_or-take n t q 0 h) (sum-set (take n t) q (omega (arith, length-take-le n t g)))

-- The sum of the first n counts grows by how many places below n are named.
pub sum_more : (n : ℕ) (qs t : List ℕ) → Each (Below n) qs → n ≤ length t → sum (take n (changes one_more t qs)) ≡ sum (take n t) + length qs
unfolding changes
sum_more n [] t h g = omega arith
sum_more n (q ∷ qs) t h g =
    let kept : length (change one_more t q) ≡ length t = length_changes one_more (q ∷ []) t in
    omega (arith, sum_more n qs (change one_more t q) h.1 (omega arith), sum-one_more n t q h.0 g)

-- ---- one less

-- A place falls by how often it is named.
pub get_d_less : (qs t : List ℕ) (q : ℕ) → q < length t → get_or (changes one_less t qs) q 0 ≡ get_or t q 0 - occurrences q qs
unfolding changes one_less occurrences
get_d_less [] t q h = omega arith
get_d_less (p ∷ qs) t q h =
    let kept : length (change one_less t p) ≡ length t = length_changes one_less (p ∷ []) t in
    go (eqb q p) (get_d_change one_less t p q (eqb q p) h refl) (get_d_less qs (change one_less t p) q (omega arith))
  where
    go : (b : Bool) → get_or (change one_less t p) q 0 ≡ cond b (one_less (get_or t q 0)) (get_or t q 0)
        → get_or (changes one_less (change one_less t p) qs) q 0 ≡ get_or (change one_less t p) q 0 - occurrences q qs
        → get_or (changes one_less (change one_less t p) qs) q 0 ≡ get_or t q 0 - (cond b 1 0 + occurrences q qs)
    go true e ih = omega arith
    go false e ih = omega arith

-- What was taken away, each count being high enough, and is counted again is as it was.
pub restored : (t qs : List ℕ) → ((q : ℕ) → q < length t → occurrences q qs ≤ get_or t q 0) → changes one_more (changes one_less t qs) qs ≡ t
restored t qs enough =
    let lowered = changes one_less t qs in
    let n = length_changes one_less qs t in
    ext_get_or 0 (changes one_more lowered qs) t (length_changes one_more qs lowered ∙ n)
    (λ q l.
    let lt : q < length t = omega (arith, length_changes one_more qs lowered) in
    omega (arith, get_d_more qs lowered q (omega arith), get_d_less qs t q lt, enough q lt))

-- What was counted and is taken away again is as it was.
pub given_back : (t qs : List ℕ) → changes one_less (changes one_more t qs) qs ≡ t
given_back t qs =
    let raised = changes one_more t qs in
    let n = length_changes one_more qs t in
    ext_get_or 0 (changes one_less raised qs) t (length_changes one_less qs raised ∙ n)
    (λ q l.
    let lt : q < length t = omega (arith, length_changes one_less qs raised) in
    omega (arith, get_d_less qs raised q (omega arith), get_d_more qs t q lt))

-- Where the first n counts are high enough, all are, no later place being named.
pub enough_by_front : (n : ℕ) (t qs : List ℕ) → Each (Below n) qs → ((q : ℕ) → q < n → occurrences q qs ≤ get_or t q 0)
    → (q : ℕ) → q < length t → occurrences q qs ≤ get_or t q 0
enough_by_front n t qs B enough q h =
    elim (dec_le n q) as (λ _. occurrences q qs ≤ get_or t q 0) [
      | yes l ↦ omega (arith, unnamed n q qs B l)
      | no l ↦ enough q (omega arith)
    ]

-- The sum of the first n counts falls by how many places below n are named, each count being high enough.
pub sum_less : (n : ℕ) (qs t : List ℕ) → Each (Below n) qs → n ≤ length t → ((q : ℕ) → q < length t → occurrences q qs ≤ get_or t q 0)
    → sum (take n (changes one_less t qs)) + length qs ≡ sum (take n t)
sum_less n qs t B g enough =
    sym (sum_more n qs (changes one_less t qs) B (omega (arith, length_changes one_less qs t))) ∙ ap (λ (x : List ℕ). sum (take n x)) (restored t qs enough)
