-- The shift and the odd-k subtraction as `shift_of` and `odd_shift` work them out from powers that stop above 2^62, and the code from these.
use Rattle.std.proofs.Common.{ap, ◌≡◌, refl, ◌∙◌, sym, List, ℕ, ◌<◌, ◌≤◌, ◌^◌, min, ◌-◌, ◌*◌, ◌+◌, suc, ◌/◌, ◌%◌, pow-suc, mul-le-mul_right, arith, le-leb, ne_eqb, eq-eqb, length}
use native.Mathlib.Nat.{pow-le-pow_right}
use borrow.Author.Tests.{lt-leb}
use Rattle.laws.proofs.Powers.{pow-fits}
use Rattle.settings.specs.Settings.{half_up, is_odd}
use Rattle.settings.proofs.Powers.{capped}
use Rattle.encoding.specs.Codes.{shift, odd_shift, digits, differing_pair, code_of_canonical}
use Rattle.encoding.specs.Needs.{equal_pairs}
use Rattle.codes.specs.Needs.{pair_after, FitCanonical}
use Rattle.encoding.specs.Words.{Reversal, Complement, Mirror, plain}
use Rattle.encoding.proofs.ByRanks.{equal_pairs-le}
use Rattle.encoding.proofs.ClassNumbers.{odd_shift-reversal, odd_shift-odd, odd_shift-even}
use Rattle.encoding.proofs.Recursion.{value}
use Rattle.codes.proofs.Scan.{differing_pair-is}

-- ---- the shift

module _ (s k p : ℕ) (fits : 2 * p ≤ k) where
  pub no_shift : k - p < p + 2 → 0 ≡ shift s k (pair_after k p)
  unfolding shift pair_after
  no_shift h = rw (lt-leb (2 * suc p) k (omega arith))

  -- x and y are the two powers as `power` gives them.
  module _ (two : 1 < s) (small : s ^ k ≤ 2 ^ 62) (h : p + 2 ≤ k - p) (x y : ℕ) (x-by : x ≡ min (s ^ (k - p - 1)) 4611686018427387905)
      (y-by : y ≡ min (s ^ (k - k / 2)) 4611686018427387905) where
    x_is : x ≡ s ^ (k - p - 1)
    x_is = capped s k (k - p - 1) x two (omega arith) small x-by

    y_is : y ≡ s ^ (k - k / 2)
    y_is = capped s k (k - k / 2) y two (omega arith) small y-by

    pub shift_pow : y ≤ x
    shift_pow = let up : s ^ (k - k / 2) ≤ s ^ (k - p - 1) = pow-le-pow_right (omega arith) (omega arith) in omega (arith, x_is, y_is)

    pub some_shift : (x - y) / 2 ≡ shift s k (pair_after k p)
    unfolding shift pair_after half_up
    some_shift =
        let e : k - p - 1 ≡ k - suc p = omega arith in
        let f : k - k / 2 ≡ (k + 1) / 2 = omega arith in
        rw (le-leb (2 * suc p) k (omega arith), x_is, y_is, e, f)

-- ---- under complement with odd k

module _ (s k : ℕ) where
  pub odd_reversal : 0 ≡ odd_shift s Reversal k
  odd_reversal = sym (odd_shift-reversal s k)

  pub even_complement : (k % 2 ≡ 1 → ⊥) → 0 ≡ odd_shift s Complement k
  unfolding is_odd
  even_complement h = sym (odd_shift-even s k (ne_eqb (k % 2) 1 h))

  -- p is s^(k/2 rounded down) as `power` gives it.
  module _ (hs : 1 < s) (hk : s ^ k ≤ 2 ^ 62) (odd : k % 2 ≡ 1) (p : ℕ) (e : p ≡ min (s ^ (k / 2)) 4611686018427387905) where
    p_is : p ≡ s ^ (k / 2)
    p_is = capped s k (k / 2) p hs (omega arith) hk e

    pub odd_complement : s / 2 * p ≡ odd_shift s Complement k
    unfolding is_odd
    odd_complement = rw p_is (sym (odd_shift-odd s k (eq-eqb (k % 2) 1 odd)))

    pub odd_fits : s / 2 * p ≤ 2 ^ 62
    odd_fits =
        let fits : s ^ suc (k / 2) ≤ 2 ^ 62 = pow-fits s (suc (k / 2)) k hs (omega arith) hk in
        let half : s / 2 ≤ s = omega arith in
        rw p_is (omega (arith, pow-suc s (k / 2), mul-le-mul_right (s ^ (k / 2)) half))

-- ---- the code of a canonical word

pub at_le : (s : ℕ) (m : Mirror) (w : List ℕ) {at : ℕ} → at ≡ equal_pairs s m (length w) w → 2 * at ≤ length w
at_le s m w e = rw e (equal_pairs-le s m (length w) w)

module _ {s : ℕ} {m : Mirror} {w : List ℕ} (c : FitCanonical s m w) {at sh odd v : ℕ} (e : at ≡ equal_pairs s m (length w) w)
    (f : sh ≡ shift s (length w) (pair_after (length w) at)) (g : odd ≡ odd_shift s m (length w)) (h : v ≡ plain s (digits s m (length w) w)) where
  shift_is : sh ≡ shift s (length w) (differing_pair s m (length w) w)
  shift_is = f ∙ ap (λ (p : ℕ). shift s (length w) (pair_after (length w) p)) e ∙ ap (shift s (length w)) (sym (differing_pair-is s m (length w) w refl))

  pub enough : sh + odd ≤ v
  enough = omega (arith, value s m c.word.two (length w) w refl c.word.ranks c.least, shift_is)

  pub code_is_this : v - sh - odd ≡ code_of_canonical s m (length w) w
  unfolding code_of_canonical
  code_is_this = rw (h, shift_is, g)
