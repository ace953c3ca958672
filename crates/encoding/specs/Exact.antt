-- What is claimed of the formulas of Words, Codes and `classes` (settings/specs/Settings.antt); shown in proofs/Exact.antt. A natural subtraction ends at 0 and a
-- division rounds down: where documents 01 and 02 use these formulas, no subtraction is cut off and each division by 2 is exact. A subtraction is not cut
-- off where the rest and what was taken away make the whole again; a half is exact where twice the half is the whole.
use Rattle.std.specs.Prelude.{◌≡◌, true, false, List, ◌≢◌, ℕ, zero, suc, ◌+◌, ◌-◌, ◌*◌, ◌/◌, ◌%◌, ◌^◌, ◌<◌, get_or, take, drop}
use Rattle.settings.specs.Settings.{half_up, is_odd, classes}
use Rattle.encoding.specs.Words.{Mirror, Reversal, Complement, mirror_rank, canonical}
use Rattle.encoding.specs.Codes.{pair_rank, differing_pair, shift, odd_shift}

-- "R = l(2s − 3 − l)/2 + r − 1", of two ranks l < r below s.
pub record ExactRank (s l r : ℕ) : Type 0 where
  pub less_l : 2 * s - 3 - l + l + 3 ≡ 2 * s
  pub halved : 2 * (l * (2 * s - 3 - l) / 2) ≡ l * (2 * s - 3 - l)
  pub less_one : pair_rank s l r + 1 ≡ l * (2 * s - 3 - l) / 2 + r

-- The shift, "(s^(k−i) − s^c)/2", of a pair i of two letters.
pub record ExactShift (s k i : ℕ) : Type 0 where
  pub less_i : k - i + i ≡ k
  pub less_power : s ^ (k - i) - s ^ half_up k + s ^ half_up k ≡ s ^ (k - i)
  pub halved : 2 * shift s k i ≡ s ^ (k - i) - s ^ half_up k

-- "s − 1 − i"; the number of classes, "(s^k + s^c) / 2 with c = k/2 rounded up; complement, s^k / 2 for odd k and (s^k + s^(k/2)) / 2 for even k", with odd s
-- "(s^k + s^(k/2 rounded down)) / 2"; and the odd-k subtraction, "s^c / 2", with odd s "(s − 1)/2 times s^(k/2 rounded down)". Each where it is used.
pub record ExactNumbers (s k : ℕ) : Type 0 where
  pub mirrored : (i : ℕ) → i < s → mirror_rank s Complement i + i + 1 ≡ s
  pub rounded_up : 2 * half_up k ≡ k + k % 2
  pub reversal_halved : 2 * classes s Reversal k ≡ s ^ k + s ^ half_up k
  pub odd_k_halved : is_odd k ≡ true → is_odd s ≡ false → 2 * classes s Complement k ≡ s ^ k
  pub even_k_halved : is_odd k ≡ false → (2 * (k / 2) ≡ k) × (2 * classes s Complement k ≡ s ^ k + s ^ (k / 2))
  pub odd_s_halved : is_odd s ≡ true → 2 * classes s Complement k ≡ s ^ k + s ^ (k / 2)
  pub subtraction_halved : is_odd k ≡ true → is_odd s ≡ false → 2 * odd_shift s Complement k ≡ s ^ half_up k
  pub odd_s_less_one : is_odd s ≡ true → (s - 1 + 1 ≡ s) × (2 * ((s - 1) / 2) ≡ s - 1)
  pub odd_s_subtraction : is_odd k ≡ true → is_odd s ≡ true → 2 * odd_shift s Complement k ≡ (s - 1) * s ^ (k / 2)

-- At each pair that the digits of a word of n letters come to: where l = r the same of the inner word, and else l < r and their R.
unfoldable pub ExactPairs : (s : ℕ) (m : Mirror) (n : ℕ) (w : List ℕ) → Type 0
ExactPairs s m zero w = Unit {0}
ExactPairs s m (suc zero) w = Unit {0}
ExactPairs s m (suc (suc n)) w =
    let l : ℕ = get_or w 0 0 in
    let r : ℕ = mirror_rank s m (get_or w (suc n) 0) in
    (l ≡ r → ExactPairs s m n (take n (drop 1 w))) × (l ≢ r → (l < r) × ExactRank s l r)

-- What the code of a word takes of these: R at the pair of its canonical word where l < r, if there is one, and the shift.
pub record NothingCutOff (s : ℕ) (m : Mirror) (k : ℕ) (w : List ℕ) : Type 0 where
  pub pairs : ExactPairs s m k (canonical s m w)
  pub shifted : (i : ℕ) → differing_pair s m k (canonical s m w) ≡ suc i → ExactShift s k (suc i)
