-- Whether some number below n, or some word of a list, passes a test: where one does there is one, and where there is one it does. From the definitions
-- `some_below` (specs/Table.antt) and `some_of` (specs/Book.antt).
use Rattle.std.proofs.Common.{◌≡◌, refl, sym, ap, ◌∙◌, ⊎_elim, ℕ, zero, suc, ◌<◌, ◌≤◌, arith, Bool, true, false, ◌||◌, List, [], ◌∷◌, length, take, get_or, length-take-le, get_or-take}
use native.Mathlib.Decide.{ℕ_discrete}
use mathlib.Core.Bool.{or-true, false≢true}
use mathlib.Core.List.Memᴰ
use mathlib.Core.List.{Memᴰ}
use Rattle.tally_book.specs.Table.{some_below}
use Rattle.tally_book.specs.Book.{some_of}

-- ---- numbers below n

-- A number below n that passes.
pub some_below_at : (n : ℕ) (test : ℕ → Bool) (i : ℕ) → i < n → test i ≡ true → some_below n test ≡ true
unfolding some_below
some_below_at zero test i h g = absurd (omega arith)
some_below_at (suc n) test i h g =
    elim (ℕ_discrete i n) as (λ _. (test n || some_below n test) ≡ true) [
      | yes e ↦ rw (ap test (sym e) ∙ g)
      | no e ↦ rw (some_below_at n test i (omega arith) g) (or-true (test n))
    ]

-- Where some number below n passes, there is one.
pub some_below_where : (n : ℕ) (test : ℕ → Bool) → some_below n test ≡ true → (i : ℕ) × (i < n) × (test i ≡ true)
unfolding some_below
some_below_where zero test e = absurd (false≢true e)
some_below_where (suc n) test e = go (test n) refl e (some_below_where n test)
  where
    go : (b : Bool) → test n ≡ b → (b || some_below n test) ≡ true → (some_below n test ≡ true → (i : ℕ) × (i < n) × (test i ≡ true))
        → (i : ℕ) × (i < suc n) × (test i ≡ true)
    go true f g ih = (n, omega arith, f)
    go false f g ih = let (i, l, m) = ih g in (i, omega arith, m)

-- Where none passes, each fails.
pub none_below : (n : ℕ) (test : ℕ → Bool) (i : ℕ) → some_below n test ≡ false → i < n → test i ≡ false
none_below n test i e h = go (test i) refl
  where
    go : (b : Bool) → test i ≡ b → test i ≡ false
    go true f = absurd (false≢true (sym e ∙ some_below_at n test i h f))
    go false f = f

-- And where each fails, none passes.
pub none_below_by : (n : ℕ) (test : ℕ → Bool) → ((i : ℕ) → i < n → test i ≡ false) → some_below n test ≡ false
unfolding some_below
none_below_by zero test h = refl
none_below_by (suc n) test h = rw (h n (omega arith)) (none_below_by n test (λ i l. h i (omega arith)))

-- Tests that are equal below n find alike.
some_below_same : (n : ℕ) (test test' : ℕ → Bool) → ((i : ℕ) → i < n → test i ≡ test' i) → some_below n test ≡ some_below n test'
unfolding some_below
some_below_same zero test test' h = refl
some_below_same (suc n) test test' h = rw (h n (omega arith), some_below_same n test test' (λ i l. h i (omega arith)))

-- A test of the first n counts, alone and in their table.
pub some_below_front : (n : ℕ) (t : List ℕ) (test : (q count : ℕ) → Bool) → n ≤ length t
    → some_below (length (take n t)) (λ (q : ℕ). test q (get_or (take n t) q 0)) ≡ some_below n (λ (q : ℕ). test q (get_or t q 0))
some_below_front n t test h =
    ap (λ (c : ℕ). some_below c (λ (q : ℕ). test q (get_or (take n t) q 0))) (length-take-le n t h)
    ∙ some_below_same n _ _ (λ q l. ap (test q) (get_or-take n t q 0 l))

-- ---- words of a list

-- A word of the list that passes.
pub some_of_member : (test : List ℕ → Bool) (ws : List (List ℕ)) (w : List ℕ) → Memᴰ w ws → test w ≡ true → some_of test ws ≡ true
unfolding some_of
some_of_member test [] w m g = absurd (Memᴰ.not-nil m)
some_of_member test (v ∷ ws) w m g =
    ⊎_elim
    (λ (e : w ≡ v). rw (ap test (sym e) ∙ g))
    (λ (r : Memᴰ w ws). rw (some_of_member test ws w r g) (or-true (test v)))
    (Memᴰ.cases_cons m)

-- Where some word of the list passes, there is one.
pub some_of_where : (test : List ℕ → Bool) (ws : List (List ℕ)) → some_of test ws ≡ true → (w : List ℕ) × (Memᴰ w ws) × (test w ≡ true)
unfolding some_of
some_of_where test [] e = absurd (false≢true e)
some_of_where test (v ∷ ws) e = go (test v) refl e (some_of_where test ws)
  where
    go : (b : Bool) → test v ≡ b → (b || some_of test ws) ≡ true → (some_of test ws ≡ true → (w : List ℕ) × (Memᴰ w ws) × (test w ≡ true))
        → (w : List ℕ) × (Memᴰ w (v ∷ ws)) × (test w ≡ true)
    go true f g ih = (v, Memᴰ.head refl, f)
    go false f g ih = let (w, m, l) = ih g in (w, Memᴰ.tail m, l)
