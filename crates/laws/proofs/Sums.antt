-- Numbers that a list adds up, each element giving its share: what a loop over the list steps through, and a bound from the bound of a share.
use mathlib.Core.Path.{◌≡◌, ap, ◌∙◌}
use mathlib.Core.List.{List, [], ◌∷◌}
use Prim.Native.Nat.{ℕ, suc, ◌+◌, ◌*◌, ◌<◌, ◌≤◌}
use native.Mathlib.Numerals.{add-one}
use native.Mathlib.Omega.{arith}
use lib.ListN.{length, get_or, drop, drop_of_length-le}
use lib.Seq.{drop-cons}

-- g is the sum over a list in which the element x has the share f x.
pub record AddsUp (f : ℕ → ℕ) (g : List ℕ → ℕ) : Type 0 where
  pub none : g [] ≡ 0
  pub more : (x : ℕ) (xs : List ℕ) → g (x ∷ xs) ≡ f x + g xs

module _ {f : ℕ → ℕ} {g : List ℕ → ℕ} (A : AddsUp f g) where
  -- One element more.
  pub sum_step : (xs : List ℕ) (i : ℕ) → i < length xs → g (drop i xs) ≡ f (get_or xs i 0) + g (drop (i + 1) xs)
  sum_step xs i h = rw (add-one i, drop-cons xs i 0 h) (A.more (get_or xs i 0) (drop (suc i) xs))

  -- No element is left.
  pub sum_end : (xs : List ℕ) (i : ℕ) → length xs ≤ i → g (drop i xs) ≡ 0
  sum_end xs i h = ap g (drop_of_length-le xs h) ∙ A.none

  -- Where no share is above b.
  pub sum_le : (b : ℕ) (xs : List ℕ) → ((i : ℕ) → f (get_or xs i 0) ≤ b) → g xs ≤ b * length xs
  sum_le b [] h = omega (arith, A.none)
  sum_le b (x ∷ xs) h = omega (arith, A.more x xs, h 0, sum_le b xs (λ i. h (suc i)))
