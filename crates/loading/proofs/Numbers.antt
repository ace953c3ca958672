-- Numbers in decimal: a text of digits without a leading zero is the decimal of its value (`number_is_decimal`), and the decimal of a number is such a text
-- with that value (`decimal-is_number`). By the digits, from the laws of decimals of the texts and survey's law of digits without a leading zero.
use Rattle.std.proofs.Common.{◌≡◌, refl, sym, ap, ◌∙◌, Bool, true, false, not, ◌&&◌, ◌||◌, List, [], ◌∷◌, ◌++◌, ℕ, zero, suc, ◌+◌, ◌-◌, ◌*◌, ◌/◌, ◌%◌, ◌≤◌, ◌<◌, arith, length, leb, eqb, leb-true, le-leb, ne_eqb}
use mathlib.Core.Bool.{and-eq-true_iff, false≢true}
use native.Mathlib.Decide.{dec_lt}
use borrow.Author.Tests.{eqb-false, not-true}
use Rattle.laws.specs.Each.{Each}
use Rattle.laws.proofs.Each.{each_append}
use Rattle.settings.specs.Settings.{is_in}
use Rattle.survey.specs.Grammar.{Digit, spelt}
use Rattle.texts.specs.Decimals.{decimal}
use Rattle.texts.proofs.Decimals.{one_digit, more_digits, decimal-each}
use Rattle.survey.proofs.OneLine.{spelt-first}
use Rattle.loading.specs.Shapes.{is_digit, all_digits, is_none, is_number}

-- ---- the tests

digit_is : (b : ℕ) → is_digit b ≡ true → Digit b
digit_is b e = let h = (and-eq-true_iff (leb 48 b) (leb b 57)).0 e in (leb-true 48 b h.0, leb-true b 57 h.1)

digits_are : (ds : List ℕ) → all_digits ds ≡ true → Each Digit ds
unfolding all_digits
digits_are [] e = tt
digits_are (d ∷ ds) e = let h = (and-eq-true_iff (is_digit d) (all_digits ds)).0 e in (digit_is d h.0, digits_are ds h.1)

are_digits : (ds : List ℕ) → Each Digit ds → all_digits ds ≡ true
unfolding all_digits
are_digits [] a = refl
are_digits (d ∷ ds) a = rw (le-leb 48 d a.0.0, le-leb d 57 a.0.1) (are_digits ds a.1)

-- No digit is an LF.
digits-no_lf : (ds : List ℕ) → Each Digit ds → is_in 10 ds ≡ false
unfolding is_in
digits-no_lf [] a = refl
digits-no_lf (d ∷ ds) a = rw (ne_eqb d 10 (λ e. omega arith)) (digits-no_lf ds a.1)

-- ---- from the text to the number

-- A text that passes the test of a number is the decimal of what it spells.
pub number_is_decimal : (ds : List ℕ) → is_number ds ≡ true → ds ≡ decimal (spelt 0 ds)
unfolding is_number
number_is_decimal [] e = absurd (false≢true e)
number_is_decimal (d ∷ ds) e =
    let first = (and-eq-true_iff (is_digit d) (all_digits ds && (is_none ds || not (eqb d 48)))).0 e in
    let rest = (and-eq-true_iff (all_digits ds) (is_none ds || not (eqb d 48))).0 first.1 in
    sym (spelt-first d ds (digit_is d first.0) (digits_are ds rest.0) (lead ds rest.1))
  where
    lead : (xs : List ℕ) → (is_none xs || not (eqb d 48)) ≡ true → d ≡ 48 → length (d ∷ xs) ≡ 1
    lead [] z same = refl
    lead (x ∷ xs) z same = absurd (eqb-false d 48 (not-true (eqb d 48) z) same)

-- ---- from the number to the text

spelt-last : (v : ℕ) (ds : List ℕ) (d : ℕ) → spelt v (ds ++ (d ∷ [])) ≡ spelt v ds * 10 + (d - 48)
unfolding spelt
spelt-last v [] d = refl
spelt-last v (x ∷ ds) d = spelt-last (v * 10 + (x - 48)) ds d

-- A text of digits of which the first is not 0, with its value.
record Led (ds : List ℕ) (n : ℕ) : Type 0 where
  first : ℕ
  rest : List ℕ
  is : ds ≡ first ∷ rest
  digit : (49 ≤ first) × (first ≤ 57)
  digits : Each Digit rest
  value : spelt 0 ds ≡ n

led : (f n : ℕ) → n < f → 1 ≤ n → Led (decimal n) n
unfolding spelt
led zero n h g = absurd (omega arith)
led (suc f) n h g =
    elim (dec_lt n 10) as (λ _. Led (decimal n) n) [
      | yes l ↦
          rw (one_digit n l)
          record { first = 48 + n % 10; rest = []; is = refl; digit = (omega arith, omega arith); digits = tt; value = omega arith }
      | no l ↦
          let L = led f (n / 10) (omega arith) (omega arith) in
          let v = L.value in
          let last : Digit (48 + n % 10) = (omega arith, omega arith) in
          rw (more_digits n (omega arith))
          record {
            first = L.first;
            rest = L.rest ++ ((48 + n % 10) ∷ []);
            is = ap (λ (x : List ℕ). x ++ ((48 + n % 10) ∷ [])) L.is;
            digit = L.digit;
            digits = each_append Digit L.rest ((48 + n % 10) ∷ []) L.digits (last, tt);
            value = spelt-last 0 (decimal (n / 10)) (48 + n % 10) ∙ omega arith;
          }
    ]

-- The decimal of a number passes the test of a number, and it spells the number.
pub decimal-is_number : (n : ℕ) → (is_number (decimal n) ≡ true) × (spelt 0 (decimal n) ≡ n)
unfolding is_number all_digits spelt
decimal-is_number zero = rw (one_digit 0 (omega arith)) (refl, refl)
decimal-is_number (suc n) =
    let L = led (suc (suc n)) (suc n) (omega arith) (omega arith) in (
      rw (L.is, le-leb 48 L.first (omega arith), le-leb L.first 57 (omega arith), are_digits L.rest L.digits, ne_eqb L.first 48 (λ e. omega arith))
          (led_or (is_none L.rest)),
      L.value,
    )
  where
    led_or : (b : Bool) → (b || true) ≡ true
    led_or true = refl
    led_or false = refl

-- No byte of a decimal is an LF.
pub decimal-no_lf : (n : ℕ) → is_in 10 (decimal n) ≡ false
decimal-no_lf n = digits-no_lf (decimal n) (decimal-each Digit (λ d h. (omega arith, omega arith)) n)
