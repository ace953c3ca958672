-- The last elements of the windows of a list, as a loop over the slice from the k-th element on takes them.
use Rattle.std.proofs.Common.{◌≡◌, ap, ◌∙◌, List, ℕ, ◌+◌, ◌-◌, ◌<◌, ◌≤◌, arith, length, get_or, take, drop, get_or-drop, take_all}
use Rattle.std.proofs.lemmas.List.{length-drop}

module _ (k : ℕ) (w : List ℕ) where
  abbrev pub lasts : List ℕ
  lasts = take (length w - (k - 1)) (drop (k - 1) w)

  lasts-are : lasts ≡ drop (k - 1) w
  lasts-are = take_all (length w - (k - 1)) (drop (k - 1) w) (omega (arith, length-drop (k - 1) w))

  n_lasts : 1 ≤ k → k ≤ length w → length lasts ≡ length w + 1 - k
  n_lasts some long = ap length lasts-are ∙ omega (arith, length-drop (k - 1) w)

  -- There is one for each window.
  module _ (some : 1 ≤ k) (long : k ≤ length w) {j : ℕ} where
    pub last_inside : j < length lasts → j + k ≤ length w
    last_inside h = omega (arith, n_lasts some long)

    pub lasts_end : length lasts ≤ j → length w < j + k
    lasts_end h = omega (arith, n_lasts some long)

  -- The window at j ends with the j-th of them.
  pub last_at : 1 ≤ k → (j : ℕ) → get_or lasts j 0 ≡ get_or w (j + k - 1) 0
  last_at some j =
      let place : k - 1 + j ≡ j + k - 1 = omega arith in
      ap (λ (l : List ℕ). get_or l j 0) lasts-are ∙ get_or-drop (k - 1) w j 0 ∙ rw place
