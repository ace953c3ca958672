-- The survey line that we print: what it is part by part (`printed_line`); and its settings' part, closed, is a line of the grammar (`line_written`): k up to
-- 999 in decimal is a k, the two mirrors' names are mirrors, and the letters of settings that pass the check are letters. From the laws of decimal digits of
-- the texts and what is known of such settings.
use Rattle.std.proofs.Common.{◌≡◌, refl, sym, ◌∙◌, Bool, true, false, not, ◌&&◌, None, List, [], ◌∷◌, ◌++◌, append_assoc, append-nil, ℕ, zero, suc, ◌+◌, ◌/◌, ◌%◌, ◌≤◌, arith, leb, ltb, leb-true, ltb-true, ltb-false}
use mathlib.Core.Bool.{and-eq-true_iff}
use Rattle.laws.specs.Text.{bytes}
use Rattle.laws.specs.Each.{Each}
use Rattle.settings.specs.Settings.{is_capital, is_in, different_capitals, settings_ground, settings_of}
use Rattle.settings.proofs.Letters.{some_letters}
use Rattle.settings.proofs.SettingsGrounds.{good_settings}
use Rattle.texts.specs.Decimals.{decimal}
use Rattle.texts.proofs.Decimals.{one_digit, more_digits}
use Rattle.survey.specs.Forms.{unclosed, line_of}
use Rattle.survey.specs.Line.{mirror_name, printed_forms, survey_line}
use Rattle.survey.specs.Grammar.{LetterByte, LettersText, Digit, KText, MirrorText, reversal, complement, spelt, as_listed, LineEnd, SurveyInput}
use Rattle.survey.proofs.ByteLaws.{letter_above}
use Rattle.survey.proofs.MirrorNames.{reversal_small, complement_small}
use Rattle.settings.specs.Given.{Given, the_settings}

-- ---- letters of settings that pass the check

capital_letters : (letters : List ℕ) → different_capitals letters ≡ true → Each LetterByte letters
unfolding different_capitals is_capital
capital_letters [] e = tt
capital_letters (b ∷ letters) e =
    let first = (and-eq-true_iff (leb 65 b && leb b 90) (not (is_in b letters) && different_capitals letters)).0 e in
    let low = leb-true 65 b ((and-eq-true_iff (leb 65 b) (leb b 90)).0 first.0).0 in
    let others = ((and-eq-true_iff (not (is_in b letters)) (different_capitals letters)).0 first.1).1 in
    (letter_above b (omega arith), capital_letters letters others)

pub good_letters_lem : (letters : List ℕ) (k mirror : ℕ) → settings_ground (the_settings letters k mirror) ≡ None → LettersText letters
good_letters_lem letters k mirror passed =
    let good = good_settings letters k mirror passed in
    let capitals = sym (some_letters letters good.two good.few) ∙ good.capitals in
    record { some = omega (arith, good.two); each = capital_letters letters capitals }

-- ---- k in decimal, by its number of digits

digit : (n : ℕ) → Digit (48 + n % 10)
digit n = (omega arith, omega arith)

k_written : (k : ℕ) → k ≤ 999 → KText (decimal k) k
unfolding spelt
k_written k h = go (ltb k 10) (ltb k 100) refl refl
  where
    go : (a b : Bool) → ltb k 10 ≡ a → ltb k 100 ≡ b → KText (decimal k) k
    go true b e f =
        let few = ltb-true k 10 e in
        rw (one_digit k few)
        record { some = omega arith; few = omega arith; each = (digit k, tt); no_leading_zero = λ z. refl; value = omega arith }
    go false true e f =
        let few = ltb-true k 100 f in
        let more = ltb-false k 10 e in
        rw (more_digits k more, one_digit (k / 10) (omega arith))
        record {
          some = omega arith;
          few = omega arith;
          each = (digit (k / 10), (digit k, tt));
          no_leading_zero = λ z. absurd (omega arith);
          value = omega arith;
        }
    go false false e f =
        let more = ltb-false k 100 f in
        rw (more_digits k (omega arith), more_digits (k / 10) (omega arith), one_digit (k / 10 / 10) (omega arith))
        record {
          some = omega arith;
          few = omega arith;
          each = (digit (k / 10 / 10), (digit (k / 10), (digit k, tt)));
          no_leading_zero = λ z. absurd (omega arith);
          value = omega arith;
        }

mirror-written : (mirror : ℕ) → mirror ≤ 1 → MirrorText (mirror_name mirror) mirror
mirror-written zero h = record { some = omega arith; each = reversal_small; number = reversal }
mirror-written (suc zero) h = record { some = omega arith; each = complement_small; number = complement }
mirror-written (suc (suc m)) h = absurd (omega arith)

-- ---- the line

-- The three values as we print them for settings that pass the check.
pub record Printed (letters : List ℕ) (k mirror : ℕ) : Type 0 where
  pub letters_good : LettersText letters
  pub k_good : KText (decimal k) k
  pub mirror_good : MirrorText (mirror_name mirror) mirror

pub values_good : (letters : List ℕ) (k mirror : ℕ) → settings_ground (the_settings letters k mirror) ≡ None → Printed letters k mirror
values_good letters k mirror passed =
    let good = good_settings letters k mirror passed in
    record {
      letters_good = good_letters_lem letters k mirror passed;
      k_good = k_written k (omega (arith, good.short_k));
      mirror_good = mirror-written mirror good.low;
    }

-- The settings' part, and then the number of classes.
pub printed_line : (settings : Given)
    → survey_line settings
    ≡ unclosed (printed_forms settings) ++ (bytes " (classes " ++ (decimal (settings_of settings).classes ++ bytes "))\n"))
unfolding survey_line
printed_line settings = simp (append_assoc, append-nil)

-- Whatever the line's end is and the file behind it.
pub line_written : (letters : List ℕ) (k mirror : ℕ) {end file : List ℕ} → LettersText letters → k ≤ 999 → mirror ≤ 1 → LineEnd end file
    → SurveyInput (line_of (printed_forms (the_settings letters k mirror)) ++ (end ++ file)) letters k mirror file
line_written letters k mirror good small known ends = record {
  k_text = decimal k;
  mirror_text = mirror_name mirror;
  line = line_of (printed_forms (the_settings letters k mirror));
  end = _;
  letters_good = good;
  k_good = k_written k small;
  mirror_good = mirror-written mirror known;
  order = as_listed;
  ends = ends;
  whole = refl;
}
