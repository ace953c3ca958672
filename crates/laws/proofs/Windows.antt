-- Windows of a list, from their definition (specs/Windows.antt): the first one, how many there are, and those of a list that is mapped. The laws of files and
-- of sequences both rest on these.
use mathlib.Core.Path.{◌≡◌, refl, ap, ◌∙◌}
use mathlib.Core.Bool.{Bool, true, false, cond}
use mathlib.Core.List.{List, [], ◌∷◌, map}
use Prim.Native.Nat.{ℕ, suc, ◌+◌, ◌-◌, ◌<◌, ◌≤◌}
use native.Mathlib.Decide.{dec_le}
use native.Mathlib.Omega.{arith}
use borrow.Author.Tests.{le-leb, lt-leb}
use lib.Dec.{leb}
use lib.ListN.{length, length-map, take}
use Rattle.laws.specs.Windows.{windows}
use Rattle.laws.proofs.Lists.{map_take}

-- Fewer than k letters have no window.
pub windows-none : (k : ℕ) (w : List ℕ) → length w < k → windows k w ≡ []
unfolding windows
windows-none k [] h = refl
windows-none k (x ∷ xs) h = rw (lt-leb k (suc (length xs)) h) (windows-none k xs (omega arith))

-- Where k letters fit, the first window is theirs.
pub windows-first : (k x : ℕ) (xs : List ℕ) → k ≤ suc (length xs) → windows k (x ∷ xs) ≡ take k (x ∷ xs) ∷ windows k xs
unfolding windows
windows-first k x xs h = rw (le-leb k (suc (length xs)) h)

-- A list of n letters has n + 1 - k windows, and none where it is shorter than k.
pub length-windows : (k : ℕ) → 1 ≤ k → (w : List ℕ) → length (windows k w) ≡ length w + 1 - k
unfolding windows
length-windows k some [] = omega arith
length-windows k some (x ∷ xs) =
    elim (dec_le k (suc (length xs))) as (λ _. length (windows k (x ∷ xs)) ≡ suc (length xs) + 1 - k) [
      | yes h ↦ ap length (windows-first k x xs h) ∙ omega (arith, length-windows k some xs)
      | no h ↦ ap length (windows-none k (x ∷ xs) (omega arith)) ∙ omega arith
    ]

-- The windows of a list that is mapped.
pub windows-mapped : (f : ℕ → ℕ) (k : ℕ) (w : List ℕ) → windows k (map f w) ≡ map (map f) (windows k w)
unfolding windows
windows-mapped f k [] = refl
windows-mapped f k (x ∷ xs) = rw (length-map xs f, map_take f k (x ∷ xs), windows-mapped f k xs) (go (leb k (suc (length xs))))
  where
    go : (t : Bool) → cond t (map f (take k (x ∷ xs)) ∷ map (map f) (windows k xs)) (map (map f) (windows k xs))
        ≡ map (map f) (cond t (take k (x ∷ xs) ∷ windows k xs) (windows k xs))
    go true = refl
    go false = refl
