-- What "equal settings then mean equal lines" (document 02, K5) rests on: where settings are not refused, a survey line with them is the one of the settings'
-- forms as we print them (`the_settings_line`). k is spelt in one way only, its decimal digits, and 0 and 1 are the numbers of one mirror each.
use Rattle.std.proofs.Common.{◌≡◌, refl, sym, ap, ◌∙◌, ◌≢◌, None, List, [], ◌∷◌, ◌++◌, append_assoc, append-nil, ℕ, ◌+◌, ◌-◌, ◌*◌, ◌/◌, ◌%◌, ◌≤◌, arith, length}
use Rattle.laws.specs.Each.{Each}
use Rattle.settings.specs.Settings.{settings_ground}
use Rattle.settings.proofs.SettingsGrounds.{good_settings}
use Rattle.texts.specs.Decimals.{decimal}
use Rattle.texts.proofs.Decimals.{one_digit, more_digits}
use Rattle.survey.specs.Forms.{settings_forms, line_of}
use Rattle.survey.specs.Line.{mirror_name, printed_forms}
use Rattle.survey.specs.Grammar.{Digit, KText, spelt, MirrorNumber, reversal, complement, another, InOrder, as_listed, SurveyInput}
use Rattle.settings.specs.Given.{the_settings}

-- ---- digits that have no leading zero are the decimal digits of the number that they spell

one_more : (v d : ℕ) → 1 ≤ v → Digit d → decimal (v * 10 + (d - 48)) ≡ decimal v ++ (d ∷ [])
one_more v d h g =
    let n = v * 10 + (d - 48) in
    let front : n / 10 ≡ v = omega arith in
    let last : 48 + n % 10 ≡ d = omega arith in
    more_digits n (omega arith) ∙ rw (front, last)

spelt-on : (v : ℕ) → 1 ≤ v → (digits : List ℕ) → Each Digit digits → decimal (spelt v digits) ≡ decimal v ++ digits
unfolding spelt
spelt-on v h [] E = sym (append-nil (decimal v))
spelt-on v h (d ∷ digits) E =
    spelt-on (v * 10 + (d - 48)) (omega arith) digits E.1 ∙ rw (one_more v d h E.0) (append_assoc (decimal v) (d ∷ []) digits)

pub spelt-first : (a : ℕ) (digits : List ℕ) → Digit a → Each Digit digits → (a ≡ 48 → length (a ∷ digits) ≡ 1)
    → decimal (spelt 0 (a ∷ digits)) ≡ a ∷ digits
unfolding spelt
spelt-first a digits D E lead = go digits E lead
  where
    v : ℕ
    v = 0 + (a - 48)

    alone : decimal v ≡ a ∷ []
    alone = let last : 48 + v % 10 ≡ a = omega arith in one_digit v (omega arith) ∙ rw last

    go : (digits : List ℕ) → Each Digit digits → (a ≡ 48 → length (a ∷ digits) ≡ 1) → decimal (spelt v digits) ≡ a ∷ digits
    go [] E lead = alone
    go (d ∷ digits) E lead = let led : a ≢ 48 = λ z. omega (arith, lead z) in spelt-on v (omega arith) (d ∷ digits) E ∙ rw alone

pub k_spelt : (text : List ℕ) {k : ℕ} → KText text k → text ≡ decimal k
k_spelt [] K = absurd (omega (arith, K.some))
k_spelt (a ∷ digits) K = sym (rw K.value (spelt-first a digits K.each.0 K.each.1 K.no_leading_zero))

-- ---- the line

pub mirror-named : {text : List ℕ} {mirror : ℕ} → MirrorNumber text mirror → mirror ≤ 1 → text ≡ mirror_name mirror
mirror-named reversal h = refl
mirror-named complement h = refl
mirror-named (another p q) h = absurd (omega arith)

line_is : {forms : List (List ℕ)} {line : List ℕ} → InOrder forms line → line ≡ line_of forms
line_is as_listed = refl

same_values : (letters : List ℕ) {k k' mirror mirror' : List ℕ} → k ≡ k' → mirror ≡ mirror'
    → line_of (settings_forms letters k mirror) ≡ line_of (settings_forms letters k' mirror')
same_values letters {k} {k'} {mirror} e f =
    ap (λ (x : List ℕ). line_of (settings_forms letters x mirror)) e ∙ ap (λ (x : List ℕ). line_of (settings_forms letters k' x)) f

-- Whatever its end and the file behind it are.
pub the_settings_line : {input letters file : List ℕ} {k mirror : ℕ} → settings_ground (the_settings letters k mirror) ≡ None → (S : SurveyInput input letters k mirror file)
    → S.line ≡ line_of (printed_forms (the_settings letters k mirror))
the_settings_line {letters = letters} {k = k} {mirror = mirror} passed S =
    let known = (good_settings letters k mirror passed).low in
    line_is S.order ∙ same_values letters (k_spelt S.k_text S.k_good) (mirror-named S.mirror_good.number known)
