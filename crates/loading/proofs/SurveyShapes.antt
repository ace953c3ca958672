-- The survey line's shape: the lines that `is_survey_line` finds are just those of the grammar with the number of classes last (`survey_shaped`), the survey line
-- that we print is one (`survey_shape`), and one is that line exactly where it has these settings and their number of classes (`survey_same`). From survey's laws of three forms in a row and of the line that we print.
use Rattle.std.proofs.Common.{◌≡◌, refl, sym, ap, ◌∙◌, true, false, ◌&&◌, ◌↔◌, Option, None, Some, List, [], ◌∷◌, ◌++◌, append_assoc, append-nil, ℕ, zero, suc, ◌+◌, arith, take, drop}
use mathlib.Core.Bool.{and-eq-true_iff, false≢true}
use mathlib.Core.List.{append_cancel_left, append_cancel_right}
use Rattle.laws.specs.Text.{bytes}
use Rattle.laws.proofs.Tests.{by_test}
use Rattle.settings.specs.Settings.{is_in, settings_ground, settings_of}
use Rattle.settings.proofs.SettingsGrounds.{good_settings}
use Rattle.lines.proofs.Lines.{Ended}
use Rattle.texts.specs.Decimals.{decimal}
use Rattle.survey.specs.declared.Name.{Name}
use Rattle.survey.specs.declared.Name.TheVariants.{Letters, K, Mirror}
use Rattle.survey.specs.declared.Form.{Form}
use Rattle.survey.specs.Forms.{form, settings_forms, unclosed, line_of}
use Rattle.survey.specs.Line.{mirror_name, printed_forms, survey_line}
use Rattle.survey.specs.Grammar.{LettersText, KText, MirrorText, spelt}
use Rattle.survey.specs.Reading.{starts_with, read_form, form_at, next_form, in_order}
use Rattle.survey.proofs.TextLaws.{starts_at}
use Rattle.survey.proofs.FormLaws.{opening, flat, flat_forms, flat_of, FormRead, FormGood, form_good}
use Rattle.survey.proofs.LineThere.{row_there, one_row}
use Rattle.survey.proofs.OneLine.{k_spelt, mirror-named}
use Rattle.survey.proofs.Written.{values_good, printed_line}
use Rattle.tally_book.proofs.WordLists.{same_word_lem, word_same}
use Rattle.loading.specs.Shapes.{same_text, inner, is_number, is_classes_end, classes_last, is_survey_line}
use Rattle.loading.specs.Claims.{SurveyShape}
use Rattle.loading.proofs.Lines.{ended_by, past}
use Rattle.loading.proofs.Numbers.{number_is_decimal, decimal-is_number, decimal-no_lf}
use Rattle.loading.proofs.Words.{letters_no_lf}
use Rattle.loading.proofs.Shapes.{inner-is}
use Rattle.settings.specs.Given.{Given, the_settings}

-- ---- the end with the number of classes

abbrev classes_shape : (digits : List ℕ) → List ℕ
classes_shape digits = bytes ") (classes " ++ (digits ++ bytes "))\n")

-- The digits of a number make such an end, and such an end has them.
classes-end : (digits : List ℕ) → is_number digits ≡ true → is_classes_end (classes_shape digits) ≡ true
unfolding is_classes_end
classes-end digits n = rw (inner-is (bytes ") (classes ") digits (bytes "))\n") 11 3 refl refl, same_word_lem (classes_shape digits), n)

classes-read : (u : List ℕ) → is_classes_end u ≡ true → (u ≡ classes_shape (inner 11 3 u)) × (is_number (inner 11 3 u) ≡ true)
unfolding is_classes_end
classes-read u e =
    let h = (and-eq-true_iff (same_text u (classes_shape (inner 11 3 u))) (is_number (inner 11 3 u))).0 e in
    (word_same u (classes_shape (inner 11 3 u)) h.0, h.1)

-- ---- from the grammar

-- The three forms, and then the end with a number.
survey_there : (l digits : List ℕ) {letters k_text mirror_text : List ℕ} {k mirror : ℕ} → LettersText letters → KText k_text k → MirrorText mirror_text mirror
    → is_number digits ≡ true
    → l ≡ unclosed (settings_forms letters k_text mirror_text) ++ (bytes " (classes " ++ (digits ++ bytes "))\n"))
    → is_survey_line l ≡ true
unfolding is_survey_line classes_last in_order starts_with
survey_there l digits good_letters_lem good_k good-mirror n e =
    let r = row_there l Letters K Mirror (good_letters_lem, refl) good_k good-mirror e in
    let started : starts_with (bytes "(survey ") l ≡ true = rw e in
    rw (started, r.is_first, r.is_second, r.is_third, r.follows) (classes-end digits n)

-- The line of the grammar, part by part.
line_parts : (x y z digits : List ℕ)
    → line_of (settings_forms x y z ++ (form (bytes "classes") digits ∷ [])) ++ bytes "\n"
    ≡ unclosed (settings_forms x y z) ++ (bytes " (classes " ++ (digits ++ bytes "))\n"))
line_parts x y z digits = simp (append_assoc, append-nil)

shape_found : (l : List ℕ) → SurveyShape l → is_survey_line l ≡ true
shape_found l S =
    survey_there l S.digits S.letters_good S.k_good S.mirror_good S.number
    (S.line ∙ line_parts S.letters S.k_text S.mirror_text S.digits)

-- ---- to the grammar

-- Form by form, as they are read; of the 27 rows of three names one is in order.
module _ (l : List ℕ) (opened : starts_with (bytes "(survey ") l ≡ true) where
  row_read : (a b c : Name) {f n v g m w h o x : ℕ} → FormRead l 8 (read_form a f n v) → starts_with (bytes ") ") (drop (f + n) l) ≡ true
      → FormRead l (f + n + 2) (read_form b g m w) → starts_with (bytes ") ") (drop (g + m) l) ≡ true → FormRead l (g + m + 2) (read_form c h o x)
      → (in_order a b c && is_classes_end (drop (h + o) l)) ≡ true
      → SurveyShape l
  unfolding in_order
  row_read K b c A p B q C e = absurd (false≢true e)
  row_read Mirror b c A p B q C e = absurd (false≢true e)
  row_read Letters Letters c A p B q C e = absurd (false≢true e)
  row_read Letters Mirror c A p B q C e = absurd (false≢true e)
  row_read Letters K Letters A p B q C e = absurd (false≢true e)
  row_read Letters K K A p B q C e = absurd (false≢true e)
  row_read Letters K Mirror {f} {n} {v} {g} {m} {w} {h} {o} {x} A p B q C e =
      let P = starts_at _ l (f + n) p in
      let Q = starts_at _ l (g + m) q in
      let (end, number) = classes-read (drop (h + o) l) e in
      let digits = inner 11 3 (drop (h + o) l) in
      let after = bytes " (classes " ++ (digits ++ bytes "))\n") in
      let whole : l ≡ flat (opening Letters) (take n (drop f l)) (opening K) (take m (drop g l)) (opening Mirror) (take o (drop h l)) after =
      flat_of (opening Letters) (take n (drop f l)) (opening K) (take m (drop g l)) (opening Mirror) (take o (drop h l)) after
      (starts_at _ l 0 opened) A.text P B.text Q C.text end in
      record {
        letters = take n (drop f l);
        k_text = take m (drop g l);
        mirror_text = take o (drop h l);
        digits = digits;
        k = w;
        mirror = x;
        letters_good = (A.means _ P).0;
        k_good = B.means _ Q;
        mirror_good = C.means _ end;
        number = number;
        line = whole
            ∙ flat_forms (opening Letters) (take n (drop f l)) (opening K) (take m (drop g l)) (opening Mirror) (take o (drop h l)) after
            ∙ sym (line_parts (take n (drop f l)) (take m (drop g l)) (take o (drop h l)) digits);
      }

  third_read : {a b : Form} → FormRead l 8 a → starts_with (bytes ") ") (drop (a.from + a.len) l) ≡ true → FormRead l (a.from + a.len + 2) b
      → starts_with (bytes ") ") (drop (b.from + b.len) l) ≡ true → (c : Option Form) → FormGood l (b.from + b.len + 2) c
      → classes_last l (Some a) (Some b) c ≡ true
      → SurveyShape l
  unfolding classes_last
  third_read A p B q None C e = absurd (false≢true e)
  third_read {a} {b} A p B q (Some c) C e = row_read a.name b.name c.name A p B q C e

  second_read : {a : Form} → FormRead l 8 a → starts_with (bytes ") ") (drop (a.from + a.len) l) ≡ true → (b : Option Form) → FormGood l (a.from + a.len + 2) b
      → classes_last l (Some a) b (next_form l b) ≡ true
      → SurveyShape l
  unfolding classes_last next_form
  second_read A p None B e = absurd (false≢true e)
  second_read {a} A p (Some b) B e =
      by_test (λ (c : Option Form). classes_last l (Some a) (Some b) c ≡ true → SurveyShape l) (starts_with (bytes ") ") (drop (b.from + b.len) l))
      (λ q. third_read A p B q (form_at l (b.from + b.len + 2)) (form_good l (b.from + b.len + 2))) (λ q x. absurd (false≢true x)) e

  first_read : (a : Option Form) → FormGood l 8 a → classes_last l a (next_form l a) (next_form l (next_form l a)) ≡ true → SurveyShape l
  unfolding classes_last next_form
  first_read None A e = absurd (false≢true e)
  first_read (Some a) A e =
      by_test (λ (b : Option Form). classes_last l (Some a) b (next_form l b) ≡ true → SurveyShape l) (starts_with (bytes ") ") (drop (a.from + a.len) l))
      (λ p. second_read A p (form_at l (a.from + a.len + 2)) (form_good l (a.from + a.len + 2))) (λ p x. absurd (false≢true x)) e

shape_read : (l : List ℕ) → is_survey_line l ≡ true → SurveyShape l
unfolding is_survey_line
shape_read l e =
    let a = form_at l 8 in
    let h = (and-eq-true_iff (starts_with (bytes "(survey ") l) (classes_last l a (next_form l a) (next_form l (next_form l a)))).0 e in
    first_read l h.0 a (form_good l 8) h.1

-- "the survey line is of the form the program reads, classes last": the test finds just the lines of that grammar.
pub survey_shaped : (l : List ℕ) → (is_survey_line l ≡ true) ↔ SurveyShape l
survey_shaped l = (shape_read l, shape_found l)

-- ---- the survey line that we print

mirror-no_lf : (m : ℕ) → is_in 10 (mirror_name m) ≡ false
unfolding is_in
mirror-no_lf zero = refl
mirror-no_lf (suc m) = refl

-- The line that is printed has one LF, at its end, where the letters have none.
one_line : (s : Given) → is_in 10 s.letters ≡ false → Ended (survey_line s)
unfolding survey_line is_in
one_line s none =
    let n = (settings_of s).classes in
    ended_by (line_of (printed_forms s ++ (form (bytes "classes") (decimal n) ∷ [])))
    (simp (append_assoc, append-nil)
    (rw (
      past 10 s.letters _ none,
      past 10 (decimal s.k) _ (decimal-no_lf s.k),
      past 10 (mirror_name s.mirror) _ (mirror-no_lf s.mirror),
      past 10 (decimal n) _ (decimal-no_lf n),
    )))

module _ (letters : List ℕ) (k m : ℕ) (good : settings_ground (the_settings letters k m) ≡ None) where
  pub survey_shape : is_survey_line (survey_line (the_settings letters k m)) ≡ true
  survey_shape =
      let P = values_good letters k m good in
      let n = (settings_of (the_settings letters k m)).classes in
      survey_there (survey_line (the_settings letters k m)) (decimal n) P.letters_good P.k_good P.mirror_good (decimal-is_number n).0 (printed_line (the_settings letters k m))

  pub survey_one_line : Ended (survey_line (the_settings letters k m))
  survey_one_line = one_line (the_settings letters k m) (letters_no_lf letters k m good)

  -- 21, "when the survey line differs from the settings or their number of classes": a line of the shape is the line that is printed under the settings, byte by
  -- byte, exactly where its letters, k, mirror and number of classes are theirs.
  pub survey_same : (l : List ℕ) (S : SurveyShape l)
      → (l ≡ survey_line (the_settings letters k m)) ↔ ((S.letters ≡ letters) × (S.k ≡ k) × (S.mirror ≡ m) × (spelt 0 S.digits ≡ (settings_of (the_settings letters k m)).classes))
  survey_same l S = (there, back)
    where
      n : ℕ
      n = (settings_of (the_settings letters k m)).classes

      k_text_lem : S.k ≡ k → S.k_text ≡ decimal k
      k_text_lem e = k_spelt S.k_text S.k_good ∙ ap decimal e

      mirror_text_lem : S.mirror ≡ m → S.mirror_text ≡ mirror_name m
      mirror_text_lem e = mirror-named S.mirror_good.number (omega (arith, e, (good_settings letters k m good).low)) ∙ ap mirror_name e

      there : l ≡ survey_line (the_settings letters k m)
          → (S.letters ≡ letters) × (S.k ≡ k) × (S.mirror ≡ m) × (spelt 0 S.digits ≡ n)
      there e =
          let P = values_good letters k m good in
          let own = S.line ∙ line_parts S.letters S.k_text S.mirror_text S.digits in
          let printed = e ∙ printed_line (the_settings letters k m) in
          let (a, b, c) = one_row _ _ S.letters_good S.k_good S.mirror_good own P.letters_good P.k_good P.mirror_good printed in
          let after : List ℕ → List ℕ = λ d. bytes " (classes " ++ (d ++ bytes "))\n") in
          let front : unclosed (settings_forms S.letters S.k_text S.mirror_text) ≡ unclosed (printed_forms (the_settings letters k m)) =
          rw (a, k_text_lem b, mirror_text_lem c) in
          let same : unclosed (printed_forms (the_settings letters k m)) ++ after S.digits ≡ unclosed (printed_forms (the_settings letters k m)) ++ after (decimal n) =
          ap (λ (x : List ℕ). x ++ after S.digits) (sym front) ∙ sym own ∙ printed in
          let digits : S.digits ≡ decimal n =
          append_cancel_right S.digits (decimal n) (bytes "))\n")
          (append_cancel_left (bytes " (classes ") _ _ (append_cancel_left (unclosed (printed_forms (the_settings letters k m))) _ _ same)) in
          (a, b, c, ap (spelt 0) digits ∙ (decimal-is_number n).1)

      back : (S.letters ≡ letters) × (S.k ≡ k) × (S.mirror ≡ m) × (spelt 0 S.digits ≡ n) → l ≡ survey_line (the_settings letters k m)
      back h =
          let digits : S.digits ≡ decimal n = number_is_decimal S.digits S.number ∙ ap decimal h.3 in
          S.line ∙ line_parts S.letters S.k_text S.mirror_text S.digits
          ∙ rw (h.0, k_text_lem h.1, mirror_text_lem h.2, digits) (sym (printed_line (the_settings letters k m)))
