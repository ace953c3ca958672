-- Powers of a base s: they are positive, split, share the parity of s, and small powers have small exponents; powers of 4 are powers of 2.
use mathlib.Core.Path.{◌≡◌, refl, ap, ◌∙◌}
use Prim.Native.Nat.{ℕ, zero, suc, ◌+◌, ◌-◌, ◌*◌, ◌/◌, ◌%◌, ◌^◌, ◌<◌, ◌≤◌}
use native.Mathlib.Nat.{pow-zero, pow-suc, one-le-pow, one-mul, le_trans, pow-le-pow_right, pow-le-pow_left}
use native.Mathlib.Decide.{dec_le}
use native.Mathlib.Omega.{arith}
use lib.Pow.{pow-add}

pub pow_pos : (s n : ℕ) → 1 < s → 0 < s ^ n
pow_pos s n h = one-le-pow n s (omega arith)

pub pow-one : (s : ℕ) → s ^ 1 ≡ s
pow-one s = pow-suc s 0 ∙ ap (λ (x : ℕ). x * s) (pow-zero s) ∙ one-mul s

pub pow-split : (s n e : ℕ) → e ≤ n → s ^ n ≡ s ^ (n - e) * s ^ e
pow-split s n e h =
    let g : n ≡ n - e + e = omega arith in
    ap (λ (x : ℕ). s ^ x) g ∙ pow-add s (n - e) e

pub pow-two_more : (s n : ℕ) → s ^ suc (suc n) ≡ s ^ n * s * s
pow-two_more s n = pow-suc s (suc n) ∙ ap (λ (x : ℕ). x * s) (pow-suc s n)

pub four_pow : (i : ℕ) → 4 ^ i ≡ 2 ^ (2 * i)
four_pow zero = rw (pow-zero 4) refl
four_pow (suc i) =
    let e : 2 * suc i ≡ suc (suc (2 * i)) = omega arith in
    rw e (omega (arith, pow-suc 4 i, four_pow i, pow-suc 2 (2 * i), pow-suc 2 (suc (2 * i))))

-- A power that is at most 2^62 has lower powers that are.
pub pow-fits : (s n k : ℕ) → 1 < s → n ≤ k → s ^ k ≤ 2 ^ 62 → s ^ n ≤ 2 ^ 62
pow-fits s n k hs h g = le_trans (pow-le-pow_right (omega arith) h) g

-- A power of 2 or more that is at most 2^62 has an exponent of at most 62.
pub exponent_le : (s k : ℕ) → 1 < s → s ^ k ≤ 2 ^ 62 → k ≤ 62
exponent_le s k hs h =
    elim (dec_le k 62) as (λ _. k ≤ 62) [
      | yes g ↦ g
      | no g ↦
          let a : 2 ^ 63 ≤ s ^ 63 = pow-le-pow_left hs 63 in
          let b : s ^ 63 ≤ s ^ k = pow-le-pow_right (omega arith) (omega arith) in
          omega arith
    ]

-- ---- parity

-- The number of pairs l < r below s: s(s - 1)/2.
unfoldable pub pair_count : ℕ → ℕ
pair_count zero = 0
pair_count (suc n) = n + pair_count n

-- s · s pairs: s equal ones, and each of the others twice.
pub square : (s : ℕ) → s * s ≡ s + 2 * pair_count s
unfolding pair_count
square zero = refl
square (suc n) = omega (arith, square n)

-- A power of s has the parity of s.
pub parity : (s n : ℕ) → (t : ℕ) × (s ^ suc n ≡ s + 2 * t)
parity s zero = (0, omega (arith, pow-one s))
parity s (suc n) =
    let (t, e) = parity s n in
    (pair_count s + t * s, omega (arith, pow-suc s (suc n), square s, ap (λ (x : ℕ). x * s) e))

-- A power of an even s is even.
pub even_pow : (s n : ℕ) → s % 2 ≡ 0 → (t : ℕ) × (s ^ suc n ≡ 2 * t)
even_pow s n h = let (t, e) = parity s n in (s / 2 + t, omega arith)

-- A power of an odd s is odd.
pub odd_pow : (s n : ℕ) → s % 2 ≡ 1 → (t : ℕ) × (s ^ n ≡ 1 + 2 * t)
odd_pow s zero h = (0, omega (arith, pow-zero s))
odd_pow s (suc n) h = let (t, e) = parity s n in (s / 2 + t, omega arith)

-- Two powers, the first not below the second, differ by an even number.
pub gap : (s a b : ℕ) → 1 < s → b ≤ a → (d : ℕ) × (s ^ suc a ≡ s ^ suc b + 2 * d)
gap s a b h g =
    let (t, e) = parity s a in
    let (u, f) = parity s b in
    let le : s ^ suc b ≤ s ^ suc a = pow-le-pow_right (omega arith) (omega arith) in
    (t - u, omega arith)
