-- Numbers read in a base s: the f digits from the digit e on, x / s^e % s^f, of a number with a digit more at each end; and the first digits of
-- two numbers that agree.
use mathlib.Core.Path.{◌≡◌, sym, ap, ◌∙◌, subst}
use Prim.Native.Nat.{ℕ, suc, ◌+◌, ◌-◌, ◌*◌, ◌/◌, ◌%◌, ◌^◌, ◌<◌, ◌≤◌}
use native.Mathlib.Nat.{pow-zero, pow-suc, pow-succ', div-one, mod-eq_of_lt, div-div-eq-div-mul, add-mul-div_right, add-mul-mod_self_right, div-lt_iff_lt-mul}
use native.Mathlib.Omega.{arith}
use lib.Arith.{digits_div, digits_mod, mod-mul}
use lib.Pow.{pow-add}
use Rattle.laws.proofs.Powers.{pow_pos, pow-one, pow-split}

-- f digits of x, from the digit e on, counted from the lowest.
unfoldable pub window : ℕ → ℕ → ℕ → ℕ → ℕ
window s e f x = x / s ^ e % s ^ f

three : (s n e f : ℕ) → e + f ≤ n → s ^ n ≡ s ^ (n - e - f) * s ^ f * s ^ e
three s n e f h =
    let g : n ≡ n - e - f + f + e = omega arith in
    ap (λ (x : ℕ). s ^ x) g ∙ pow-add s (n - e - f + f) e ∙ ap (λ (x : ℕ). x * s ^ e) (pow-add s (n - e - f) f)

-- A number with a digit more at each end, by its lowest digit.
ends_low : (s n a x b : ℕ) → a * s ^ suc n + x * s + b ≡ (a * s ^ n + x) * s + b
ends_low s n a x b = omega (arith, ap (λ (y : ℕ). a * y) (pow-suc s n))

-- A number with a digit more at its front, by what stands above its e lowest digits.
high_split : (s n a x e : ℕ) → e ≤ n → a * s ^ n + x ≡ x + (a * s ^ (n - e)) * s ^ e
high_split s n a x e h = omega (arith, ap (λ (y : ℕ). a * y) (pow-split s n e h))

-- A digit above the window does not show in it.
window_high : (s n a x e f : ℕ) → 1 < s → e + f ≤ n → window s e f (a * s ^ n + x) ≡ window s e f x
unfolding window
window_high s n a x e f hs h =
    let d : ℕ = n - e - f in
    let g : a * s ^ n + x ≡ x + (a * s ^ d * s ^ f) * s ^ e = omega (arith, ap (λ (y : ℕ). a * y) (three s n e f h)) in
    rw (g, add-mul-div_right x (a * s ^ (n - e - f) * s ^ f) (pow_pos s e hs)) (add-mul-mod_self_right (x / s ^ e) (a * s ^ (n - e - f)) (s ^ f))

-- A digit below moves it by one.
window_low : (s x b e f : ℕ) → b < s → window s (suc e) f (x * s + b) ≡ window s e f x
unfolding window
window_low s x b e f h = rw (pow-succ' s e, ← (div-div-eq-div-mul (x * s + b) s (s ^ e)), digits_div x h)

-- A digit more at each end moves the digits between by one place.
pub window_ends : (s n a x b e f : ℕ) → 1 < s → b < s → e + f ≤ n → window s (suc e) f (a * s ^ suc n + x * s + b) ≡ window s e f x
window_ends s n a x b e f hs hb h =
    ap (window s (suc e) f) (ends_low s n a x b) ∙ window_low s (a * s ^ n + x) b e f hb ∙ window_high s n a x e f hs h

-- The first digit.
pub window_first : (s n a y : ℕ) → a < s → y < s ^ n → window s n 1 (a * s ^ n + y) ≡ a
unfolding window
window_first s n a y ha hy = rw (digits_div a hy, pow-one s) (mod-eq_of_lt ha)

-- All between the first digit and the last.
pub window_inner : (s n a x b : ℕ) → 1 < s → b < s → x < s ^ n → window s 1 n (a * s ^ suc n + x * s + b) ≡ x
unfolding window
window_inner s n a x b hs hb hx = window_ends s n a x b 0 n hs hb (omega arith) ∙ rw (pow-zero s, div-one x) (mod-eq_of_lt hx)

-- The low digits, with a digit more at each end.
pub low_ends : (s n a x b p : ℕ) → 1 < s → b < s → p ≤ n → (a * s ^ suc n + x * s + b) % s ^ suc p ≡ x % s ^ p * s + b
low_ends s n a x b p hs hb h =
    let hs0 : 0 < s = omega arith in
    rw (
      ends_low s n a x b,
      pow-suc s p,
      mod-mul ((a * s ^ n + x) * s + b) (pow_pos s p hs) hs0,
      digits_div (a * s ^ n + x) hb,
      digits_mod (a * s ^ n + x) hb,
      high_split s n a x p h,
    )
    (ap (λ (y : ℕ). y * s + b) (add-mul-mod_self_right x (a * s ^ (n - p)) (s ^ p)))

-- ---- the first digits

-- The first digits of a number with a digit more at each end.
pub prefix_ends : (s n a x b e : ℕ) → 1 < s → b < s → e ≤ n → (a * s ^ suc n + x * s + b) / s ^ suc e ≡ a * s ^ (n - e) + x / s ^ e
prefix_ends s n a x b e hs hb h =
    rw (
      ends_low s n a x b,
      pow-succ' s e,
      ← (div-div-eq-div-mul ((a * s ^ n + x) * s + b) s (s ^ e)),
      digits_div (a * s ^ n + x) hb,
      high_split s n a x e h,
    )
    (add-mul-div_right x (a * s ^ (n - e)) (pow_pos s e hs) ∙ omega arith)

-- The digits from e on are a number of n - e digits.
pub prefix_lt : (s n x e : ℕ) → 1 < s → e ≤ n → x < s ^ n → x / s ^ e < s ^ (n - e)
prefix_lt s n x e hs h hx = (div-lt_iff_lt-mul (pow_pos s e hs)).1 (subst (λ (y : ℕ). x < y) (pow-split s n e h) hx)

-- Two equal numbers of a digit and a rest below q have equal digits.
pub digits-first : (q a c x y : ℕ) → x < q → y < q → a * q + x ≡ c * q + y → a ≡ c
digits-first q a c x y hx hy e = sym (digits_div a hx) ∙ ap (λ (z : ℕ). z / q) e ∙ digits_div c hy

-- And equal rests.
pub digits-rest : (q a c x y : ℕ) → x < q → y < q → a * q + x ≡ c * q + y → x ≡ y
digits-rest q a c x y hx hy e = sym (digits_mod a hx) ∙ ap (λ (z : ℕ). z % q) e ∙ digits_mod c hy
