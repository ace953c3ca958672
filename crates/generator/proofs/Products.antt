-- A product modulo m * m from the halves of its factors (`product`), as `wrapping_mul` works it out (`by_halves`). From the laws of remainders.
use Rattle.std.proofs.Common.{◌≡◌, ℕ, ◌+◌, ◌*◌, ◌/◌, ◌%◌, ◌^◌, ◌<◌, sym, ◌∙◌, div-add-mod', mul-div_cancel, arith}
use native.Mathlib.Nat.{add-mod, add-mod-mod, mul-add-mod_self_right, mul-mod_left}
use lib.Arith.{mod-mul}

-- What is above m is cut off a factor of m alike before and after.
cut : (m x : ℕ) → 0 < m → x * m % (m * m) ≡ x % m * m
cut m x pos = mod-mul (x * m) pos pos ∙ rw (mul-div_cancel x pos, mul-mod_left x m) (omega arith)

product : (m a1 a0 b1 b0 : ℕ) → 0 < m
    → (a0 * b0 + (a1 * b0 % m + a0 * b1 % m) % m * m) % (m * m) ≡ (a1 * m + a0) * (b1 * m + b0) % (m * m)
product m a1 a0 b1 b0 pos =
    let x : ℕ = a1 * b0 + a0 * b1 in
    let crossed : (a1 * b0 % m + a0 * b1 % m) % m ≡ x % m = sym (add-mod (a1 * b0) (a0 * b1) m) in
    let whole : (a1 * m + a0) * (b1 * m + b0) ≡ a1 * b1 * (m * m) + (a0 * b0 + x * m) = omega arith in
    rw (crossed, ← cut m x pos, whole)
    (add-mod-mod (a0 * b0) (x * m) (m * m) ∙ sym (mul-add-mod_self_right (a1 * b1) (m * m) (a0 * b0 + x * m)))

-- The product by halves, as the function works it out.
pub by_halves : (a b r : ℕ) → r ≡ (a % 4294967296 * (b % 4294967296)
    + (a / 4294967296 * (b % 4294967296) % 4294967296 + a % 4294967296 * (b / 4294967296) % 4294967296) % 4294967296 * 4294967296) % 2 ^ 64
    → r ≡ a * b % 2 ^ 64
by_halves a b r e =
    e
    ∙ product 4294967296 (a / 4294967296) (a % 4294967296) (b / 4294967296) (b % 4294967296) (omega arith)
    ∙ rw (div-add-mod' a 4294967296, div-add-mod' b 4294967296)
