-- The number of classes as `class_count` works it out from s^k and s^(k/2), and ground 4 from the power that stops above 2^62.
use mathlib.Core.Path.{◌≡◌, refl, ap}
use Prim.Native.Nat.{ℕ, suc, ◌+◌, ◌*◌, ◌/◌, ◌%◌, ◌^◌, ◌<◌, ◌≤◌, min}
use native.Mathlib.Nat.{pow-suc, mul-le-mul_left}
use native.Mathlib.Omega.{arith}
use mathlib.Core.Bool.{Bool, true, false, not, cond}
use lib.Dec.{eqb}
use borrow.Author.Tests.{eq-eqb, ne_eqb, lt-ltb, le-ltb}
use Rattle.laws.proofs.Powers.{pow-fits}
use Rattle.settings.proofs.Powers.{capped}
use Rattle.settings.proofs.Parity.{odd_is, even_is}
use Rattle.settings.specs.declared.Mirror.TheVariants.{Reversal, Complement}
use Rattle.settings.specs.Settings.{classes, half_up, is_odd, bad_size}

-- What `class_count` has at hand: s^k and s^(k/2), each as `power` gives it, which stops above 2^62.
pub record Powered (s k words half : ℕ) : Type 0 where
  pub two : 1 < s
  pub small : s ^ k ≤ 2 ^ 62
  pub words_by : words ≡ min (s ^ k) 4611686018427387905
  pub half_by : half ≡ min (s ^ (k / 2)) 4611686018427387905

-- The number of palindromes for odd k under complement, s^(k/2) or none, is at most s^(k/2).
pub odd_complement_fits : (s half : ℕ) → half * (s % 2) ≤ half
odd_complement_fits s half =
    let at_most_one : s % 2 ≤ 1 = omega arith in
    omega (arith, mul-le-mul_left half at_most_one)

module _ (s k words half : ℕ) (p : Powered s k words half) where
  words_is : words ≡ s ^ k
  words_is = capped s k k words p.two (omega arith) p.small p.words_by

  half_is : half ≡ s ^ (k / 2)
  half_is = capped s k (k / 2) half p.two (omega arith) p.small p.half_by

  -- For odd k the palindromes under reversal are s^(k/2) · s many, no more than all words.
  pub odd_fits : k % 2 ≡ 1 → half * s ≤ 2 ^ 62
  odd_fits e =
      let fits : s ^ suc (k / 2) ≤ 2 ^ 62 = pow-fits s (suc (k / 2)) k p.two (omega arith) p.small in
      omega (arith, pow-suc s (k / 2), ap (λ (h : ℕ). h * s) half_is)

  pub odd_reversal : k % 2 ≡ 1 → (words + half * s) / 2 ≡ classes s Reversal k
  unfolding classes half_up
  odd_reversal e =
      let c : (k + 1) / 2 ≡ suc (k / 2) = omega arith in
      rw (c, pow-suc s (k / 2), words_is, half_is)

  pub even_reversal : (k % 2 ≡ 1 → ⊥) → (words + half) / 2 ≡ classes s Reversal k
  unfolding classes half_up
  even_reversal e =
      let c : (k + 1) / 2 ≡ k / 2 = omega arith in
      rw (c, words_is, half_is)

  -- For odd k there are s^(k/2) palindromes under complement where s is odd, and none where s is even.
  pub odd_complement : k % 2 ≡ 1 → (words + half * (s % 2)) / 2 ≡ classes s Complement k
  unfolding classes is_odd
  odd_complement e = rw (eq-eqb (k % 2) 1 e, words_is, half_is) (go (eqb (s % 2) 1) refl)
    where
      go : (b : Bool) → eqb (s % 2) 1 ≡ b → (s ^ k + s ^ (k / 2) * (s % 2)) / 2 ≡ cond (not b) (s ^ k / 2) ((s ^ k + s ^ (k / 2)) / 2)
      go true f = rw (odd_is s f) (omega arith)
      go false f = rw (even_is s f) (omega arith)

  pub even_complement : (k % 2 ≡ 1 → ⊥) → (words + half) / 2 ≡ classes s Complement k
  unfolding classes is_odd
  even_complement e = rw (ne_eqb (k % 2) 1 e, words_is, half_is)

-- Ground 4.
module _ (s k : ℕ) where
  pub no_k : k ≡ 0 → bad_size s k ≡ true
  unfolding bad_size
  no_k e = rw (eq-eqb k 0 e)

  pub large_k : (k ≡ 0 → ⊥) → (p : ℕ) → p ≡ min (s ^ k) 4611686018427387905 → 4611686018427387904 < p → bad_size s k ≡ true
  unfolding bad_size
  large_k e p f g = let h : 2 ^ 62 < s ^ k = omega arith in rw (ne_eqb k 0 e, lt-ltb (2 ^ 62) (s ^ k) h)

  pub good_k : (k ≡ 0 → ⊥) → s ^ k ≤ 2 ^ 62 → bad_size s k ≡ false
  unfolding bad_size
  good_k e g = rw (ne_eqb k 0 e, le-ltb (2 ^ 62) (s ^ k) g)
