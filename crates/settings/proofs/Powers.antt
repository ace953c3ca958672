-- The power of s that stops above 2^62: one turn of its loop, that there are at most 62 turns before it stops, and what it gives where the power fits.
use mathlib.Core.Path.{◌≡◌}
use Prim.Native.Nat.{ℕ, ◌+◌, ◌*◌, ◌^◌, ◌/◌, ◌<◌, ◌≤◌, min}
use native.Mathlib.Nat.{pow-suc, pow-le-pow_right, div-lt_iff_lt-mul}
use native.Mathlib.Numerals.{add-one}
use native.Mathlib.Omega.{arith}
use Rattle.laws.proofs.Powers.{pow-fits, exponent_le}

pub power_next : (s p i : ℕ) → p ≡ s ^ i → p * s ≡ s ^ (i + 1)
power_next s p i is = rw (add-one i, pow-suc s i, is)

pub too_big : (s k p i : ℕ) → 1 < s → p ≡ s ^ i → i < k → 4611686018427387904 / s < p → 4611686018427387905 ≡ min (s ^ k) 4611686018427387905
too_big s k p i two is h g =
    let pos : 0 < s = omega arith in
    let more : 4611686018427387904 < p * s = (div-lt_iff_lt-mul pos).0 g in
    let up : s ^ (i + 1) ≤ s ^ k = pow-le-pow_right (omega arith) (omega arith) in
    omega (arith, power_next s p i is)

pub few_turns : (s p i : ℕ) → 1 < s → p ≡ s ^ i → p ≤ 4611686018427387904 → i ≤ 62
few_turns s p i two is h = exponent_le s i two (omega arith)

-- What `power` gives for s^n, where s^k fits and n is at most k, is s^n.
pub capped : (s k n x : ℕ) → 1 < s → n ≤ k → s ^ k ≤ 2 ^ 62 → x ≡ min (s ^ n) 4611686018427387905 → x ≡ s ^ n
capped s k n x two h g e = omega (arith, pow-fits s n k two h g)
