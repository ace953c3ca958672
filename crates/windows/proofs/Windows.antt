-- The windows of a list: the later and the first of them, the one at a place, and the law for batches: a list cut into pieces that overlap by
-- k - 1 letters has the windows of the pieces, one piece after the other.
use Rattle.std.proofs.Common.{◌≡◌, refl, sym, ap, ap₂, ◌∙◌, List, [], ◌∷◌, ◌++◌, map, ℕ, zero, suc, ◌+◌, ◌-◌, ◌≤◌, arith, length, get_or, take, drop, length-drop, take-append-drop, take-take, length-take-le}
use native.Mathlib.Decide.{dec_le}
use lib.ListN.{length-map}
use Rattle.laws.proofs.Windows.{windows-none, windows-first, length-windows}
use Rattle.laws.specs.Windows.{windows}

module _ (k : ℕ) (some : 1 ≤ k) where
  -- The windows from the one at a on are those of the letters from a on.
  pub windows_drop : (a : ℕ) (w : List ℕ) → drop a (windows k w) ≡ windows k (drop a w)
  unfolding windows
  windows_drop zero w = refl
  windows_drop (suc a) [] = refl
  windows_drop (suc a) (x ∷ xs) =
      elim (dec_le k (suc (length xs))) as (λ _. drop (suc a) (windows k (x ∷ xs)) ≡ windows k (drop a xs)) [
        | yes h ↦ ap (drop (suc a)) (windows-first k x xs h) ∙ windows_drop a xs
        | no h ↦
            ap (drop (suc a)) (windows-none k (x ∷ xs) (omega arith))
            ∙ sym (windows-none k (drop a xs) (omega (arith, length-drop a xs)))
      ]

  -- The first a windows are those of the first a + k - 1 letters.
  pub windows_take : (a : ℕ) (w : List ℕ) → a + k ≤ suc (length w) → take a (windows k w) ≡ windows k (take (a + k - 1) w)
  windows_take zero w g = sym (windows-none k (take (0 + k - 1) w) (omega (arith, length-take-le (0 + k - 1) w (omega arith))))
  windows_take (suc a) [] g = absurd (omega arith)
  windows_take (suc a) (x ∷ xs) g =
      let n : suc a + k - 1 ≡ suc (a + k - 1) = omega arith in
      let l : length (take (a + k - 1) xs) ≡ a + k - 1 = length-take-le (a + k - 1) xs (omega arith) in
      ap (take (suc a)) (windows-first k x xs (omega arith))
      ∙ ap₂ (λ (v : List ℕ) (vs : List (List ℕ)). v ∷ vs) (sym (take-take k (suc (a + k - 1)) (x ∷ xs) (omega arith))) (windows_take a xs (omega arith))
      ∙ sym (ap (λ (i : ℕ). windows k (take i (x ∷ xs))) n ∙ windows-first k x (take (a + k - 1) xs) (omega arith))

  -- A run cut into pieces that overlap by k - 1 letters has the same windows: those of its first a + k - 1 letters, then those of the letters from a on.
  pub pieces : (a : ℕ) (w : List ℕ) → a + k ≤ suc (length w) → windows k w ≡ windows k (take (a + k - 1) w) ++ windows k (drop a w)
  pieces a w g = sym (take-append-drop a (windows k w)) ∙ rw (windows_take a w g, windows_drop a w)

  -- What is worked out of the window at j.
  pub window_at : (f : List ℕ → ℕ) (j : ℕ) (w : List ℕ) → j + k ≤ length w → get_or (map f (windows k w)) j 0 ≡ f (take k (drop j w))
  unfolding windows
  window_at f j [] h = absurd (omega arith)
  window_at f zero (x ∷ xs) h = ap (λ (vs : List (List ℕ)). get_or (map f vs) 0 0) (windows-first k x xs (omega arith))
  window_at f (suc j) (x ∷ xs) h =
      ap (λ (vs : List (List ℕ)). get_or (map f vs) (suc j) 0) (windows-first k x xs (omega arith)) ∙ window_at f j xs (omega arith)

  pub length_codes : (f : List ℕ → ℕ) (w : List ℕ) → length (map f (windows k w)) ≡ length w + 1 - k
  length_codes f w = length-map (windows k w) f ∙ length-windows k some w
