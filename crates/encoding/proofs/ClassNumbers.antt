-- The number of classes, the number of palindromes and the shift, each from those of the word two letters shorter. With s^n written out,
-- classes(n + 2) = s * classes(n) + s(s - 1)/2 * s^n: the words with equal outer letters, and those with a pair l < r. And those
-- of one letter. In this crate proofs split on odd and even s only here: save those on palindromes, the laws that others cite hold for both.
use Rattle.std.proofs.Common.{◌≡◌, refl, ap, Bool, true, false, not, cond, ◌&&◌, ℕ, zero, suc, ◌+◌, ◌-◌, ◌*◌, ◌/◌, ◌%◌, ◌^◌, ◌<◌, ◌≤◌, pow-suc, arith, eqb}
use mathlib.Core.Bool.{false≢true}
use native.Mathlib.Nat.{pow-zero, pow-le-pow_right, div-eq_of_eq-mul_right}
use Rattle.settings.specs.Settings.{half_up, is_odd, classes}
use Rattle.settings.proofs.Parity.{odd_is, even_is}
use Rattle.laws.proofs.Powers.{pair_count, square, parity, even_pow, odd_pow, gap, pow-one, pow-two_more}
use Rattle.encoding.specs.Words.{Mirror, Reversal, Complement}
use Rattle.encoding.specs.Codes.{shift, odd_shift}
use Rattle.encoding.specs.Needs.{palindromes}

-- Halves of k, by recursion in steps of two, and of odd and even k.
half_up-suc : (n : ℕ) → half_up (suc (suc n)) ≡ suc (half_up n)
unfolding half_up
half_up-suc n = omega arith

is_odd-suc : (n : ℕ) → is_odd (suc (suc n)) ≡ is_odd n
unfolding is_odd
is_odd-suc n = let e : suc (suc n) % 2 ≡ n % 2 = omega arith in ap (λ (x : ℕ). eqb x 1) e

half_suc : (n : ℕ) → suc (suc n) / 2 ≡ suc (n / 2)
half_suc n = omega arith

even_half : (n : ℕ) → is_odd n ≡ false → n / 2 ≡ half_up n
unfolding half_up
even_half n e = omega (arith, even_is n e)

odd_half : (n : ℕ) → is_odd n ≡ true → half_up n ≡ suc (n / 2)
unfolding half_up
odd_half n e = omega (arith, odd_is n e)

half_up-le : (n : ℕ) → half_up n ≤ n
unfolding half_up
half_up-le n = omega arith

pub half_up-twice : (n : ℕ) → 2 * half_up n ≡ n + n % 2
unfolding half_up
half_up-twice n = omega arith

-- s ^ n and s ^ (n/2 rounded up) are both odd or both even
same_parity : (s n : ℕ) → (t : ℕ) × (s ^ n + s ^ half_up n ≡ 2 * t)
unfolding half_up
same_parity s zero = (1, omega (arith, pow-zero s))
same_parity s (suc zero) = (s ^ 1, omega arith)
same_parity s (suc (suc n)) =
    let (t, e) = parity s (suc n) in
    let (u, f) = parity s (half_up n) in
    (s + t + u, omega (arith, ap (λ (x : ℕ). s ^ x) (half_up-suc n)))

odd_even_pow : (s n : ℕ) → s % 2 ≡ 0 → is_odd n ≡ true → (t : ℕ) × (s ^ n ≡ 2 * t)
unfolding is_odd
odd_even_pow s zero h e = absurd (false≢true e)
odd_even_pow s (suc n) h e = even_pow s n h

-- Twice the number of classes is s^n and the number of palindromes: the division by 2 in `classes` loses nothing.
pub twice_classes : (s : ℕ) (m : Mirror) (n : ℕ) → 2 * classes s m n ≡ s ^ n + palindromes s m n
unfolding classes palindromes
twice_classes s Reversal n = let (t, e) = same_parity s n in omega arith
twice_classes s Complement n = go (is_odd n) (is_odd s) refl refl
  where
    go : (o b : Bool) → is_odd n ≡ o → is_odd s ≡ b
        → 2 * cond (o && not b) (s ^ n / 2) ((s ^ n + s ^ (n / 2)) / 2) ≡ s ^ n + cond (o && not b) 0 (s ^ (n / 2))
    go false b e f = let (t, g) = same_parity s n in rw (even_half n e) (omega arith)
    go true false e f = let (t, g) = odd_even_pow s n (even_is s f) e in omega arith
    go true true e f =
        let (t, g) = odd_pow s n (odd_is s f) in
        let (u, h) = odd_pow s (n / 2) (odd_is s f) in
        omega arith

-- A word two letters longer: s times as many palindromes.
pub palindromes-suc : (s : ℕ) (m : Mirror) (n : ℕ) → palindromes s m (suc (suc n)) ≡ s * palindromes s m n
unfolding palindromes
palindromes-suc s Reversal n = rw (half_up-suc n) (omega (arith, pow-suc s (half_up n)))
palindromes-suc s Complement n = rw (half_suc n, is_odd-suc n) (go (is_odd n && not (is_odd s)))
  where
    go : (b : Bool) → cond b 0 (s ^ suc (n / 2)) ≡ s * cond b 0 (s ^ (n / 2))
    go true = omega arith
    go false = omega (arith, pow-suc s (n / 2))

-- classes(n + 2) = s classes(n) + s(s - 1)/2 s^n: equal outer letters around each class, or a pair that differs around each word.
pub classes-suc : (s : ℕ) (m : Mirror) (n : ℕ) → classes s m (suc (suc n)) ≡ s * classes s m n + pair_count s * s ^ n
classes-suc s m n =
    omega (
      arith,
      twice_classes s m n,
      ap (λ (x : ℕ). s * x) (twice_classes s m n),
      twice_classes s m (suc (suc n)),
      palindromes-suc s m n,
      ap (λ (x : ℕ). x * s ^ n) (square s),
      pow-two_more s n,
    )

-- The odd-k subtraction, for odd and even s alike: s/2 rounded down times s^(n/2 rounded down).
pub odd_shift-odd : (s n : ℕ) → is_odd n ≡ true → odd_shift s Complement n ≡ s / 2 * s ^ (n / 2)
unfolding odd_shift
odd_shift-odd s n o = rw o (go (is_odd s) refl)
  where
    go : (b : Bool) → is_odd s ≡ b → cond b ((s - 1) / 2 * s ^ (n / 2)) (s ^ half_up n / 2) ≡ s / 2 * s ^ (n / 2)
    go true e =
        let half : (s - 1) / 2 ≡ s / 2 = omega (arith, odd_is s e) in
        rw half
    go false e =
        let twice : 2 * (s / 2) ≡ s = omega (arith, even_is s e) in
        rw (odd_half n o) (omega (arith, pow-suc s (n / 2), ap (λ (x : ℕ). x * s ^ (n / 2)) twice))

pub odd_shift-even : (s n : ℕ) → is_odd n ≡ false → odd_shift s Complement n ≡ 0
unfolding odd_shift
odd_shift-even s n e = rw e

pub odd_shift-reversal : (s n : ℕ) → odd_shift s Reversal n ≡ 0
unfolding odd_shift
odd_shift-reversal s n = refl

pub odd_palindromes : (s : ℕ) (m : Mirror) (n : ℕ) → palindromes s m n + 2 * odd_shift s m n ≡ s ^ half_up n
unfolding palindromes
odd_palindromes s Reversal n = omega (arith, odd_shift-reversal s n)
odd_palindromes s Complement n = go (is_odd n) (is_odd s) refl refl
  where
    go : (o b : Bool) → is_odd n ≡ o → is_odd s ≡ b → cond (o && not b) 0 (s ^ (n / 2)) + 2 * odd_shift s Complement n ≡ s ^ half_up n
    go false b e f = rw (odd_shift-even s n e, even_half n e) (omega arith)
    go true false e f =
        let half : 2 * (s / 2) ≡ s = omega (arith, even_is s f) in
        rw (odd_shift-odd s n e, odd_half n e) (omega (arith, pow-suc s (n / 2), ap (λ (x : ℕ). x * s ^ (n / 2)) half))
    go true true e f =
        let half : 1 + 2 * (s / 2) ≡ s = omega (arith, odd_is s f) in
        rw (odd_shift-odd s n e, odd_half n e) (omega (arith, pow-suc s (n / 2), ap (λ (x : ℕ). x * s ^ (n / 2)) half))

pub odd_shift-suc : (s : ℕ) (m : Mirror) (n : ℕ) → odd_shift s m (suc (suc n)) ≡ s * odd_shift s m n
odd_shift-suc s m n =
    omega (
      arith,
      odd_palindromes s m (suc (suc n)),
      ap (λ (x : ℕ). s * x) (odd_palindromes s m n),
      palindromes-suc s m n,
      ap (λ (x : ℕ). s ^ x) (half_up-suc n),
      pow-suc s (half_up n),
    )

-- The shift where the outer pair differs.
pub shift-first : (s : ℕ) (m : Mirror) (n : ℕ) → 1 < s → s ^ suc n ≡ s * classes s m n + shift s (suc (suc n)) 1 + odd_shift s m (suc (suc n))
unfolding shift
shift-first s m n h =
    let e₁ : suc (suc n) - 1 ≡ suc n = omega arith in
    let (d, f) = gap s n (half_up n) h (half_up-le n) in
    omega (
      arith,
      ap (λ (x : ℕ). s ^ x) e₁,
      ap (λ (x : ℕ). s ^ x) (half_up-suc n),
      twice_classes s m n,
      ap (λ (x : ℕ). s * x) (twice_classes s m n),
      odd_palindromes s m (suc (suc n)),
      palindromes-suc s m n,
      pow-suc s n,
    )

half_scaled : (s a b d : ℕ) → a ≡ b + 2 * d → (a * s - b * s) / 2 ≡ s * ((a - b) / 2)
half_scaled s a b d e =
    let f : (a - b) / 2 ≡ d = omega arith in
    let two : 0 < 2 = omega arith in
    let g : a * s - b * s ≡ 2 * (s * d) = omega (arith, ap (λ (x : ℕ). x * s) e) in
    rw f (div-eq_of_eq-mul_right two g)

shift-powers : (s a b : ℕ) → 1 < s → b ≤ a → (s ^ suc (suc a) - s ^ suc (suc b)) / 2 ≡ s * ((s ^ suc a - s ^ suc b) / 2)
shift-powers s a b h g = rw (pow-suc s (suc a), pow-suc s (suc b)) (half_scaled s (s ^ suc a) (s ^ suc b) (gap s a b h g).0 (gap s a b h g).1)

shift-exponents : (s a b x y z : ℕ) → 1 < s → b ≤ a → x ≡ suc (suc a) → y ≡ suc a → z ≡ suc b → (s ^ x - s ^ suc z) / 2 ≡ s * ((s ^ y - s ^ z) / 2)
shift-exponents s a b x y z h g e₁ e₂ e₃ = rw (e₁, e₂, e₃) (shift-powers s a b h g)

-- The shift of the whole word from the inner word's.
pub shift_suc : (s n i : ℕ) → 1 < s → 2 * suc i ≤ n → shift s (suc (suc n)) (suc (suc i)) ≡ s * shift s n (suc i)
unfolding shift
shift_suc s n i h g =
    rw (half_up-suc n)
    (shift-exponents s (n - suc (suc i)) (half_up n - 1) (suc (suc n) - suc (suc i)) (n - suc i) (half_up n) h
    (omega (arith, half_up-twice n)) (omega arith) (omega arith) (omega (arith, half_up-twice n)))

-- No more palindromes than words.
pub palindromes-le : (s : ℕ) (m : Mirror) (n : ℕ) → 1 < s → palindromes s m n ≤ s ^ n
unfolding palindromes
palindromes-le s Reversal n hs = pow-le-pow_right (omega arith) (half_up-le n)
palindromes-le s Complement n hs = go (is_odd n && not (is_odd s))
  where
    go : (t : Bool) → cond t 0 (s ^ (n / 2)) ≤ s ^ n
    go true = omega arith
    go false = pow-le-pow_right (omega arith) (omega arith)

-- The number of classes is at most s^k.
pub classes-le : (s : ℕ) (m : Mirror) (n : ℕ) → 1 < s → classes s m n ≤ s ^ n
classes-le s m n hs = omega (arith, twice_classes s m n, palindromes-le s m n hs)

pub classes-palindromes : (s : ℕ) (m : Mirror) (n : ℕ) → 1 < s → palindromes s m n ≤ classes s m n
classes-palindromes s m n hs = omega (arith, twice_classes s m n, palindromes-le s m n hs)

-- ---- words of one letter

pub palindromes-one : (s : ℕ) → palindromes s Complement 1 ≡ s % 2
unfolding palindromes is_odd
palindromes-one s = go (eqb (s % 2) 1) refl
  where
    go : (b : Bool) → eqb (s % 2) 1 ≡ b → cond (not b) 0 (s ^ (1 / 2)) ≡ s % 2
    go true e = omega (arith, odd_is s e, pow-zero s)
    go false e = omega (arith, even_is s e)

pub classes-one_reversal : (s : ℕ) → classes s Reversal 1 ≡ s
unfolding classes half_up
classes-one_reversal s = omega (arith, pow-one s)

pub classes-one_complement : (s : ℕ) → classes s Complement 1 ≡ (s + 1) / 2
classes-one_complement s = omega (arith, twice_classes s Complement 1, palindromes-one s, pow-one s)

pub odd_shift-one : (s : ℕ) → odd_shift s Complement 1 ≡ s / 2
unfolding half_up
odd_shift-one s = omega (arith, odd_palindromes s Complement 1, palindromes-one s, pow-one s)

-- ---- palindromes under complement: none for odd k with even s, else s^(k/2 rounded down)

pub some_palindromes : (s k : ℕ) → (is_odd k && not (is_odd s)) ≡ false → palindromes s Complement k ≡ s ^ (k / 2)
unfolding palindromes
some_palindromes s k e = rw e

pub no_palindromes : (s k : ℕ) → (is_odd k && not (is_odd s)) ≡ true → palindromes s Complement k ≡ 0
unfolding palindromes
no_palindromes s k e = rw e
