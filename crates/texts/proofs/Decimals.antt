-- The decimal digits of a number: the last digit apart, how many there are, and that each byte is a digit (`decimal-each`). From the definition in
-- specs/Decimals.antt.
use Rattle.std.proofs.Common.{◌≡◌, refl, sym, ap, ◌∙◌, ℕ, zero, suc, ◌+◌, ◌*◌, ◌/◌, ◌%◌, ◌^◌, ◌≤◌, ◌<◌, max, pow-suc, arith, Bool, true, false, cond, [], ◌∷◌, ◌++◌, length, length-append, ltb, ltb-true, ltb-false, lt-ltb, le-ltb}
use native.Mathlib.Decide.{dec_lt}
use Rattle.laws.specs.Each.{Each}
use Rattle.laws.proofs.Each.{each_append}
use Rattle.laws.proofs.Powers.{pow_pos}
use Rattle.texts.specs.Decimals.{decimal_from, decimal}

-- More steps than the number give the same digits.
enough : (f g n : ℕ) → n < f → n < g → decimal_from f n ≡ decimal_from g n
unfolding decimal_from
enough zero g n h j = absurd (omega arith)
enough (suc f) zero n h j = absurd (omega arith)
enough (suc f) (suc g) n h j = go (ltb n 10) refl (λ m p q. enough f g m p q)
  where
    go : (t : Bool) → ltb n 10 ≡ t → ((m : ℕ) → m < f → m < g → decimal_from f m ≡ decimal_from g m)
        → cond t ((48 + n) ∷ []) (decimal_from f (n / 10) ++ ((48 + n % 10) ∷ []))
        ≡ cond t ((48 + n) ∷ []) (decimal_from g (n / 10) ++ ((48 + n % 10) ∷ []))
    go true e ih = refl
    go false e ih = rw (ih (n / 10) (omega (arith, ltb-false n 10 e)) (omega (arith, ltb-false n 10 e)))

pub one_digit : (n : ℕ) → n < 10 → decimal n ≡ (48 + n % 10) ∷ []
unfolding decimal decimal_from
one_digit n h = let e : n % 10 ≡ n = omega arith in rw (lt-ltb n 10 h, e)

last_apart : (n : ℕ) → 10 ≤ n → decimal_from (suc n) n ≡ decimal_from n (n / 10) ++ ((48 + n % 10) ∷ [])
unfolding decimal_from
last_apart n h = rw (le-ltb n 10 h)

pub more_digits : (n : ℕ) → 10 ≤ n → decimal n ≡ decimal (n / 10) ++ ((48 + n % 10) ∷ [])
unfolding decimal
more_digits n h = last_apart n h ∙ (rw (enough n (suc (n / 10)) (n / 10) (omega arith) (omega arith)))

pub length_more : (n : ℕ) → 10 ≤ n → length (decimal n) ≡ length (decimal (n / 10)) + 1
length_more n h = ap length (more_digits n h) ∙ length-append (decimal (n / 10)) ((48 + n % 10) ∷ [])

-- A number from 10^d to below 10^(d + 1) has d + 1 digits.
length_by_power : (d n : ℕ) → 10 ^ d ≤ n → n < 10 * 10 ^ d → length (decimal n) ≡ d + 1
length_by_power zero n l h = ap length (one_digit n (omega arith))
length_by_power (suc d) n l h =
    let p : 10 ^ suc d ≡ 10 ^ d * 10 = pow-suc 10 d in
    let positive : 0 < 10 ^ d = pow_pos 10 d (omega arith) in
    omega (arith, length_more n (omega arith), length_by_power d (n / 10) (omega arith) (omega arith))

-- The same with 0 beside 1, which has as many digits.
pub length_by_log : (d n : ℕ) → 10 ^ d ≤ max n 1 → max n 1 < 10 * 10 ^ d → d + 1 ≡ length (decimal n)
length_by_log d zero l h = sym (ap length (one_digit 0 (omega arith)) ∙ sym (ap length (one_digit 1 (omega arith))) ∙ length_by_power d 1 l h)
length_by_log d (suc n) l h = sym (length_by_power d (suc n) (omega arith) (omega arith))

-- A number below 10^(d + 1) has at most d + 1 digits.
pub decimal-length : (d n : ℕ) → n < 10 ^ suc d → length (decimal n) ≤ suc d
decimal-length zero n h = omega (arith, ap length (one_digit n (omega (arith, pow-suc 10 0))))
decimal-length (suc d) n h = go (ltb n 10) refl (decimal-length d (n / 10))
  where
    go : (t : Bool) → ltb n 10 ≡ t → (n / 10 < 10 ^ suc d → length (decimal (n / 10)) ≤ suc d) → length (decimal n) ≤ suc (suc d)
    go true e ih = omega (arith, ap length (one_digit n (ltb-true n 10 e)))
    go false e ih = omega (arith, length_more n (ltb-false n 10 e), ih (omega (arith, pow-suc 10 (suc d))))

-- What holds of every digit holds of each byte of a decimal.
pub decimal-each : (P : ℕ → Type 0) → ((d : ℕ) → d < 10 → P (48 + d)) → (n : ℕ) → Each P (decimal n)
decimal-each P digit n = go (suc n) n (omega arith)
  where
    go : (f n : ℕ) → n < f → Each P (decimal n)
    go zero n h = absurd (omega arith)
    go (suc f) n h =
        elim (dec_lt n 10) as (λ _. Each P (decimal n)) [
          | yes l ↦ rw (one_digit n l) (digit (n % 10) (omega arith), tt)
          | no l ↦
              rw (more_digits n (omega arith))
              (each_append P (decimal (n / 10)) ((48 + n % 10) ∷ []) (go f (n / 10) (omega arith)) (digit (n % 10) (omega arith), tt))
        ]
