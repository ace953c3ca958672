-- The value of a form: the lengths that the reader admits and the numbers that it reads are the grammar's. `value_read` goes from the reader to
-- the grammar, `value_there` from the grammar to the reader. From the laws of the value's bytes (ByteLaws) and of the mirrors' names (MirrorNames).
use Rattle.std.proofs.Common.{◌≡◌, refl, sym, ap, ◌∙◌, Bool, true, false, not, ◌&&◌, ◌||◌, true≢false, List, [], ◌∷◌, ◌++◌, ℕ, zero, suc, ◌+◌, ◌-◌, ◌*◌, ◌^◌, ◌≤◌, ◌<◌, pow-suc, add-one, arith, length, take, drop, get_or, length-append, take-append-drop, length-take-le, leb, eqb, leb-true, leb-false, le-leb, eqb-true, eq-eqb, ne_eqb, Some}
use mathlib.Core.Bool.{and-true, and-eq-true_iff}
use native.Mathlib.Nat.{pow-le-pow_right}
use lib.Seq.{take-append_seam}
use borrow.Author.Tests.{not-true}
use Rattle.laws.specs.Text.{bytes}
use Rattle.survey.specs.declared.Name.{Name}
use Rattle.survey.specs.declared.Name.TheVariants.{Letters, K, Mirror}
use Rattle.laws.specs.Each.{Each}
use Rattle.survey.specs.Grammar.{LettersText, KText, SmallLetter, MirrorText, spelt}
use Rattle.survey.specs.Reading.{starts_with, stretch, value_byte, sized, number_of, read_form, form_of}
use Rattle.survey.proofs.ByteLaws.{ByteOf, stretch-le, stretch-each, stretch-all}
use Rattle.survey.proofs.MirrorNames.{mirror-read, mirror-there}

-- A text with the number that it stands for as a form's value. Letters stand for none, which the reader calls 0.
abbrev pub ValueText : Name → (text : List ℕ) (number : ℕ) → Type 0
ValueText Letters text number = LettersText text × (number ≡ 0)
ValueText K text number = KText text number
ValueText Mirror text number = MirrorText text number

-- ---- lengths

-- Whether the value starts with 0 is whether its first byte is one.
leads : (n : ℕ) (u : List ℕ) → 1 ≤ n → n ≤ length u → starts_with (bytes "0") u ≡ eqb (get_or (take n u) 0 0) 48
unfolding starts_with
leads zero u h g = absurd (omega arith)
leads (suc n) [] h g = absurd (omega arith)
leads (suc n) (x ∷ u) h g = and-true (eqb x 48)

module _ (u : List ℕ) (n : ℕ) where
  k_single : n ≡ 1 → sized K u n ≡ true
  unfolding sized
  k_single h = rw h

  k_more : 2 ≤ n → n ≤ 3 → sized K u n ≡ not (starts_with (bytes "0") u)
  unfolding sized
  k_more h g = rw (le-leb 1 n (omega arith), le-leb n 3 g, ne_eqb n 1 (λ e. omega arith))

  -- The three tests of a k.
  k_tests : sized K u n ≡ true → (1 ≤ n) × (n ≤ 3) × ((eqb n 1 || not (starts_with (bytes "0") u)) ≡ true)
  unfolding sized
  k_tests e =
      let first = (and-eq-true_iff (leb 1 n) (leb n 3 && (eqb n 1 || not (starts_with (bytes "0") u)))).0 e in
      let others = (and-eq-true_iff (leb n 3) (eqb n 1 || not (starts_with (bytes "0") u))).0 first.1 in
      (leb-true 1 n first.0, leb-true n 3 others.0, others.1)

  pub few_digits : sized K u n ≡ true → n ≤ 3
  few_digits e = (k_tests e).1

  one_or_led : sized K u n ≡ true → starts_with (bytes "0") u ≡ true → n ≡ 1
  one_or_led e z = go (eqb n 1) refl (k_tests e).2
    where
      go : (c : Bool) → eqb n 1 ≡ c → (c || not (starts_with (bytes "0") u)) ≡ true → n ≡ 1
      go true f g = eqb-true n 1 f
      go false f g = absurd (true≢false (sym z ∙ not-true (starts_with (bytes "0") u) g))

  pub some_bytes : (name : Name) → sized name u n ≡ true → 1 ≤ n
  unfolding sized
  some_bytes Letters e = leb-true 1 n e
  some_bytes K e = (k_tests e).0
  some_bytes Mirror e = leb-true 1 n e

-- ---- digits, one at a time

pub spelt_more : (v : ℕ) (digits : List ℕ) (i : ℕ) → i < length digits
    → spelt v (take (i + 1) digits) ≡ spelt v (take i digits) * 10 + (get_or digits i 0 - 48)
unfolding spelt
spelt_more v [] i h = absurd (omega arith)
spelt_more v (d ∷ digits) zero h = refl
spelt_more v (d ∷ digits) (suc i) h = rw add-one (rw add-one at (spelt_more (v * 10 + (d - 48)) digits i (omega arith)))

-- A number from j bytes is below 256^j.
pub grows : (v d j : ℕ) → v < 256 ^ j → d < 256 → v * 10 + d < 256 ^ (j + 1)
grows v d j h g = rw (add-one j) (omega (arith, pow-suc 256 j))

pub small : (v j : ℕ) → v < 256 ^ j → j ≤ 2 → v < 65536
small v j h g = let p : 256 ^ j ≤ 256 ^ 2 = pow-le-pow_right (omega arith) g in omega arith

-- ---- the value whole

taken_long : (name : Name) (u : List ℕ) (n : ℕ) → n ≡ stretch (value_byte name) u → length (take n u) ≡ n
taken_long name u n d = length-take-le n u (omega (arith, stretch-le (value_byte name) u))

-- u is the input from the value on, and a bracket stands after its stretch.
pub value_read : (name : Name) (u w : List ℕ) (n : ℕ) → n ≡ stretch (value_byte name) u → sized name u n ≡ true → drop n u ≡ 41 ∷ w
    → ValueText name (take n u) (number_of name u n)
unfolding number_of
value_read Letters u w n d s e =
    let long = taken_long Letters u n d in
    (record { some = omega (arith, some_bytes u n Letters s); each = rw d (stretch-each Letters u) }, refl)
value_read K u w n d s e =
    let long = taken_long K u n d in
    let some = some_bytes u n K s in
    let led = leads n u some (omega (arith, stretch-le (value_byte K) u)) in
    record {
      some = omega arith;
      few = omega (arith, few_digits u n s);
      each = rw d (stretch-each K u);
      no_leading_zero = λ z. long ∙ one_or_led u n s (led ∙ eq-eqb (get_or (take n u) 0 0) 48 z);
      value = refl;
    }
value_read Mirror u w n d s e =
    let long = taken_long Mirror u n d in
    let small : Each SmallLetter (take n u) = rw d (stretch-each Mirror u) in
    let closed : take n u ++ (41 ∷ w) ≡ u = rw (← e) (take-append-drop n u) in
    record { some = omega (arith, some_bytes u n Mirror s); each = small; number = rw closed at (mirror-read (take n u) w small) }

-- k of an admitted length, with a bracket after it.
k_sized : (v w : List ℕ) → 1 ≤ length v → length v ≤ 3 → (get_or v 0 0 ≡ 48 → length v ≡ 1) → sized K (v ++ (41 ∷ w)) (length v) ≡ true
k_sized v w some few lead = go (leb 2 (length v)) refl
  where
    go : (c : Bool) → leb 2 (length v) ≡ c → sized K (v ++ (41 ∷ w)) (length v) ≡ true
    go false e = k_single (v ++ (41 ∷ w)) (length v) (omega (arith, leb-false 2 (length v) e))
    go true e =
        let more : 2 ≤ length v = leb-true 2 (length v) e in
        let led = leads (length v) (v ++ (41 ∷ w)) some (omega (arith, length-append v (41 ∷ w))) in
        let first : eqb (get_or v 0 0) 48 ≡ false = ne_eqb (get_or v 0 0) 48 (λ z. omega (arith, lead z)) in
        let no_zero : starts_with (bytes "0") (v ++ (41 ∷ w)) ≡ false = led ∙ rw (take-append_seam v (41 ∷ w)) first in
        k_more (v ++ (41 ∷ w)) (length v) more few ∙ ap not no_zero

each_byte : (name : Name) (v : List ℕ) (number : ℕ) → ValueText name v number → Each (ByteOf name) v
each_byte Letters v number h = h.0.each
each_byte K v number h = h.each
each_byte Mirror v number h = h.each

value_sized : (name : Name) (v w : List ℕ) (number : ℕ) → ValueText name v number → sized name (v ++ (41 ∷ w)) (length v) ≡ true
unfolding sized
value_sized Letters v w number h = le-leb 1 (length v) h.0.some
value_sized K v w number h = k_sized v w h.some h.few h.no_leading_zero
value_sized Mirror v w number h = le-leb 1 (length v) h.some

value_number : (name : Name) (v w : List ℕ) (number : ℕ) → ValueText name v number → number_of name (v ++ (41 ∷ w)) (length v) ≡ number
unfolding number_of
value_number Letters v w number h = sym h.1
value_number K v w number h = rw (take-append_seam v (41 ∷ w)) (sym h.value)
value_number Mirror v w number h = mirror-there v w number h.each h.number

-- A value with its bracket is read as the form that it is.
pub value_there : (name : Name) (v w : List ℕ) (number from : ℕ) → ValueText name v number
    → form_of name from (v ++ (41 ∷ w)) (stretch (value_byte name) (v ++ (41 ∷ w))) ≡ Some (read_form name from (length v) number)
unfolding form_of
value_there name v w number from h =
    rw (stretch-all name v w (each_byte name v number h), value_sized name v w number h, value_number name v w number h)
