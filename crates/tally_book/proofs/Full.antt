-- Ground 12: it applies exactly where some count of a table, or some tally of a book, is too high. From the definition `full` (specs/Table.antt) and the
-- laws of such tests (Some).
use Rattle.std.proofs.Common.{◌≡◌, refl, sym, ap, ◌∙◌, ℕ, zero, suc, ◌-◌, ◌≤◌, ◌<◌, arith, Bool, true, false, ◌||◌, List, [], ◌∷◌, map, length, get_or, ltb, ltb-true, lt-ltb}
use native.Mathlib.Decide.{dec_le}
use mathlib.Core.Bool.{or-true, false≢true}
use Rattle.laws.proofs.Tests.{bool_ext}
use Rattle.tally_book.specs.Table.{full, some_below}
use Rattle.tally_book.specs.Book.{some_of}
use Rattle.tally_book.proofs.Some.{some_below_at, some_below_where}

-- A count that is too high makes ground 12 apply.
full_at : (n : ℕ) (cs : List ℕ) (i : ℕ) → i < length cs → 4294967295 - n < get_or cs i 0 → full n cs ≡ true
unfolding full
full_at n [] i h g = absurd (omega arith)
full_at n (c ∷ cs) zero h g = rw (lt-ltb (4294967295 - n) c g)
full_at n (c ∷ cs) (suc i) h g = rw (full_at n cs i (omega arith) g) (or-true (ltb (4294967295 - n) c))

-- Where ground 12 applies some count is too high.
full-where : (n : ℕ) (cs : List ℕ) → full n cs ≡ true → (i : ℕ) × (i < length cs) × (4294967295 - n < get_or cs i 0)
unfolding full
full-where n [] e = absurd (false≢true e)
full-where n (c ∷ cs) e = go (ltb (4294967295 - n) c) refl e (full-where n cs)
  where
    go : (b : Bool) → ltb (4294967295 - n) c ≡ b → (b || full n cs) ≡ true → (full n cs ≡ true → (i : ℕ) × (i < length cs) × (4294967295 - n < get_or cs i 0))
        → (i : ℕ) × (i < length (c ∷ cs)) × (4294967295 - n < get_or (c ∷ cs) i 0)
    go true f g ih = (0, omega arith, ltb-true _ _ f)
    go false f g ih = let (i, l, m) = ih g in (suc i, omega arith, m)

-- Where it does not apply, each count has room.
pub not_full : (n : ℕ) (cs : List ℕ) (i : ℕ) → full n cs ≡ false → i < length cs → get_or cs i 0 ≤ 4294967295 - n
not_full n cs i e h =
    elim (dec_le (get_or cs i 0) (4294967295 - n)) as (λ _. get_or cs i 0 ≤ 4294967295 - n) [
      | yes l ↦ l
      | no l ↦ absurd (false≢true (sym e ∙ full_at n cs i h (omega arith)))
    ]

-- Ground 12 as a test of each count, by its place.
pub full-below : (n : ℕ) (cs : List ℕ) → full n cs ≡ some_below (length cs) (λ (q : ℕ). ltb (4294967295 - n) (get_or cs q 0))
full-below n cs = bool_ext (full n cs) (some_below (length cs) (λ (q : ℕ). ltb (4294967295 - n) (get_or cs q 0))) to from
  where
    to : full n cs ≡ true → some_below (length cs) (λ (q : ℕ). ltb (4294967295 - n) (get_or cs q 0)) ≡ true
    to e = let (i, l, g) = full-where n cs e in some_below_at (length cs) _ i l (lt-ltb (4294967295 - n) (get_or cs i 0) g)

    from : some_below (length cs) (λ (q : ℕ). ltb (4294967295 - n) (get_or cs q 0)) ≡ true → full n cs ≡ true
    from e = let (i, l, g) = some_below_where (length cs) _ e in full_at n cs i l (ltb-true (4294967295 - n) (get_or cs i 0) g)

-- And as a test of each tally, by its word.
pub full-of : (n : ℕ) (b : List ℕ → ℕ) (ws : List (List ℕ)) → full n (map b ws) ≡ some_of (λ (w : List ℕ). ltb (4294967295 - n) (b w)) ws
unfolding full some_of
full-of n b [] = refl
full-of n b (w ∷ ws) = ap (λ (x : Bool). ltb (4294967295 - n) (b w) || x) (full-of n b ws)
