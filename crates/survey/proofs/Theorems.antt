-- What is proved of reading a survey line: `read_input`, which `read_line` answers, gives exactly the inputs of the grammar, each with the letters,
-- k, mirror and file that it has, and refuses 19 exactly those whose forms stand in another order. The line that we print has the number of classes besides
-- (document 02, K6): its settings' part, closed, is read back, and itself it is none of these. From the two directions (LineRead, LineThere), what the line
-- that we print is (Written), and that settings which are not refused have one survey line (OneLine).
use Rattle.std.proofs.Common.{◌≡◌, refl, sym, ap, ◌∙◌, subst, inl, inr, None, Result, Ok, Err, List, ◌++◌, append-nil, append_assoc, ℕ, ◌≤◌, arith, take, drop}
use Rattle.laws.specs.Text.{bytes}
use Rattle.settings.specs.Grounds.{Outcome, given, refused}
use Rattle.settings.specs.Settings.{settings_ground}
use Rattle.settings.proofs.SettingsGrounds.{good_settings}
use Rattle.settings.specs.declared.Refusal.{Refusal}
use Rattle.survey.specs.declared.Survey.{Survey}
use Rattle.survey.specs.Forms.{unclosed, line_of}
use Rattle.survey.specs.Line.{printed_forms, survey_line}
use Rattle.survey.specs.Grammar.{LettersText, as_listed, LineEnd, with_the_input, SurveyInput, OtherOrderInput}
use Rattle.survey.specs.Claims.{InputParts, input_parts, of_head, Neither}
use Rattle.survey.specs.Reading.{read_line, read_input}
use Rattle.survey.proofs.LineRead.{Fine, line_good}
use Rattle.survey.proofs.LineThere.{in_order_lem, in_another_order, further_form, further_form_in_another_order, one_row}
use Rattle.survey.proofs.Written.{good_letters_lem, values_good, printed_line, line_written}
use Rattle.survey.proofs.OneLine.{the_settings_line}
use Rattle.settings.specs.Given.{the_settings}

-- Which refusal an answer is; 0 for none.
number : Outcome InputParts → ℕ
number (given p) = 0
number (refused g) = g.0

-- Only survey lines are read: where parts are given, the input is a survey line with these letters, this k and this mirror, and then this file.
pub reads_only : (t : List ℕ) {p : InputParts} → read_input t ≡ given p → SurveyInput t p.letters p.k p.mirror p.file
unfolding read_input number
reads_only t {p} = go (read_line t) (line_good t)
  where
    go : (h : Result Survey Refusal) → Fine t h → of_head t h ≡ given p → SurveyInput t p.letters p.k p.mirror p.file
    go (Ok s) F e =
        let same : input_parts (take s.len (drop s.from t)) s.k s.mirror (drop s.next t) ≡ p = cc in
        subst (λ (q : InputParts). SurveyInput t q.letters q.k q.mirror q.file) same F.1
    go (Err f) F e = cc

-- Every survey line is read, as the letters, k, mirror and file that it has.
pub reads_all : {t letters : List ℕ} {k mirror : ℕ} {file : List ℕ} → SurveyInput t letters k mirror file
    → read_input t ≡ given (input_parts letters k mirror file)
reads_all s = in_order_lem s.letters_good s.k_good s.mirror_good s.ends s.order s.whole

-- Only lines in another order, and all of them, are refused 19.
pub other_order_only : (t : List ℕ) → read_input t ≡ refused (19, 0) → OtherOrderInput t
unfolding read_input number
other_order_only t = go (read_line t) (line_good t)
  where
    go : (h : Result Survey Refusal) → Fine t h → of_head t h ≡ refused (19, 0) → OtherOrderInput t
    go (Ok s) F e = absurd (omega (arith, ap number e))
    go (Err f) (inl none) e = absurd (omega (arith, ap number (rw none at e)))
    go (Err f) (inr other) e = other.1

pub other_order_all : {t : List ℕ} → OtherOrderInput t → read_input t ≡ refused (19, 0)
unfolding read_input
other_order_all {t} o =
    let s = o.is in
    ap (of_head t) (in_another_order s.letters_good s.k_good s.mirror_good s.ends s.order s.whole)

-- So a line has one reading: an input is not a survey line in two ways.
pub one_reading : {t letters letters' : List ℕ} {k k' mirror mirror' : ℕ} {file file' : List ℕ} → SurveyInput t letters k mirror file
    → SurveyInput t letters' k' mirror' file' → (letters ≡ letters') × (k ≡ k') × (mirror ≡ mirror') × (file ≡ file')
one_reading {t} {letters} {letters'} {k} {k'} {mirror} {mirror'} {file} {file'} s s' =
    let both = sym (reads_all s) ∙ reads_all s' in
    let same : input_parts letters k mirror file ≡ input_parts letters' k' mirror' file' = cc in (
      ap (λ (p : InputParts). p.letters) same,
      ap (λ (p : InputParts). p.k) same,
      ap (λ (p : InputParts). p.mirror) same,
      ap (λ (p : InputParts). p.file) same,
    )

-- No input is both a survey line and a line in another order.
pub one_order : {t letters : List ℕ} {k mirror : ℕ} {file : List ℕ} → SurveyInput t letters k mirror file → OtherOrderInput t → ⊥
unfolding number
one_order s o = omega (arith, ap number (sym (reads_all s) ∙ other_order_all o))

-- 13 refuses what is neither, and nothing else.
pub refuses : (t : List ℕ) → read_input t ≡ refused (13, 0) → Neither t
unfolding number
refuses t e = record {
  no_survey = λ s. omega (arith, ap number (sym (reads_all s) ∙ e));
  no_other_order = λ o. omega (arith, ap number (sym (other_order_all o) ∙ e));
}

pub refuses_all : (t : List ℕ) → Neither t → read_input t ≡ refused (13, 0)
unfolding read_input
refuses_all t n = go (read_line t) (line_good t)
  where
    go : (h : Result Survey Refusal) → Fine t h → of_head t h ≡ refused (13, 0)
    go (Ok s) F = absurd (n.no_survey F.1)
    go (Err f) (inl none) = rw none
    go (Err f) (inr other) = absurd (n.no_other_order other.1)

-- The parts of the input, 13 or 19: what holds of each of these holds of what the input is read as.
pub one_of_three : (t : List ℕ) (Q : Outcome InputParts → Type 0) → ((p : InputParts) → Q (given p)) → Q (refused (13, 0)) → Q (refused (19, 0))
    → Q (read_input t)
unfolding read_input
one_of_three t Q read no_survey other-order = go (read_line t) (line_good t)
  where
    go : (h : Result Survey Refusal) → Fine t h → Q (of_head t h)
    go (Ok s) F = read _
    go (Err f) (inl none) = rw none no_survey
    go (Err f) (inr other) = rw other.0 other-order

-- The settings' forms as we print them are read back: for letters, a k up to 999 and a mirror 0 or 1 their line is read as these, with each end, and what
-- follows the end is the file.
pub reads_back : (letters : List ℕ) (k mirror : ℕ) {end file : List ℕ} → LettersText letters → k ≤ 999 → mirror ≤ 1 → LineEnd end file
    → read_input (line_of (printed_forms (the_settings letters k mirror)) ++ (end ++ file)) ≡ given (input_parts letters k mirror file)
reads_back letters k mirror good small known ends = reads_all (line_written letters k mirror good small known ends)

-- So it is for what we print: only settings that pass the check are printed, and the settings' part of the line that is printed for them (`printed_line`),
-- closed, is read as the same letters, the same k and the same mirror.
pub reads_back_the_settings_part : (letters : List ℕ) (k mirror : ℕ) {end file : List ℕ} → settings_ground (the_settings letters k mirror) ≡ None → LineEnd end file
    → read_input (line_of (printed_forms (the_settings letters k mirror)) ++ (end ++ file)) ≡ given (input_parts letters k mirror file)
reads_back_the_settings_part letters k mirror passed =
    let good = good_settings letters k mirror passed in
    reads_back letters k mirror (good_letters_lem letters k mirror passed) (omega (arith, good.short_k)) good.low

-- "The line that the program reads has no such form" (document 02, K6): a survey line that has a space and anything more in place of its closing bracket is
-- none, nor one in another order;
pub reads_no_further_form : {input letters file : List ℕ} {k mirror : ℕ} (part rest : List ℕ) (S : SurveyInput input letters k mirror file)
    → S.line ≡ part ++ bytes ")" → read_input (part ++ (bytes " " ++ rest)) ≡ refused (13, 0)
unfolding read_input
reads_no_further_form part rest S e = rw (further_form part rest S.letters_good S.k_good S.mirror_good S.order e)

-- and so it is of a line in another order.
pub reads_no_further_form_in_another_order : {input : List ℕ} (part rest : List ℕ) (o : OtherOrderInput input) → o.is.line ≡ part ++ bytes ")"
    → read_input (part ++ (bytes " " ++ rest)) ≡ refused (13, 0)
unfolding read_input
reads_no_further_form_in_another_order part rest o e =
    let s = o.is in
    rw (further_form_in_another_order part rest s.letters_good s.k_good s.mirror_good s.order e)

-- The line that we print is such a line, whatever follows it.
pub reads_no_printed_line : (letters : List ℕ) (k mirror : ℕ) (rest : List ℕ) → settings_ground (the_settings letters k mirror) ≡ None
    → read_input (survey_line (the_settings letters k mirror) ++ rest) ≡ refused (13, 0)
unfolding read_input
reads_no_printed_line letters k mirror rest passed =
    let v = values_good letters k mirror passed in
    let part = unclosed (printed_forms (the_settings letters k mirror)) in
    rw (printed_line (the_settings letters k mirror), append_assoc part _ rest, further_form part _ v.letters_good v.k_good v.mirror_good as_listed refl)

-- "Where the settings are not refused, equal settings then mean equal lines, save for the line's end" (document 02, K5): both are the line of the
-- settings' forms as we print them.
pub equal_settings_equal_lines : {input input' letters file file' : List ℕ} {k mirror : ℕ} → settings_ground (the_settings letters k mirror) ≡ None
    → (S : SurveyInput input letters k mirror file) (S' : SurveyInput input' letters k mirror file') → S.line ≡ S'.line
equal_settings_equal_lines passed S S' = the_settings_line passed S ∙ sym (the_settings_line passed S')

-- With another end, and another file behind it, a survey line has the same settings.
pub another_end : {input input' letters file file' end : List ℕ} {k mirror : ℕ} (S : SurveyInput input letters k mirror file) → LineEnd end file'
    → input' ≡ S.line ++ (end ++ file') → SurveyInput input' letters k mirror file'
another_end S ends whole = record {
  k_text = S.k_text;
  mirror_text = S.mirror_text;
  line = S.line;
  end = _;
  letters_good = S.letters_good;
  k_good = S.k_good;
  mirror_good = S.mirror_good;
  order = S.order;
  ends = ends;
  whole = whole;
}

-- And equal lines mean equal settings, refused ones too: so groups may compare lines by bytes.
pub equal_lines_equal_settings : {input input' letters letters' file file' : List ℕ} {k k' mirror mirror' : ℕ} (S : SurveyInput input letters k mirror file)
    (S' : SurveyInput input' letters' k' mirror' file') → S.line ≡ S'.line → (letters ≡ letters') × (k ≡ k') × (mirror ≡ mirror')
equal_lines_equal_settings S S' e =
    let alone = another_end S' with_the_input (sym (append-nil S'.line)) in
    let same = another_end S with_the_input (sym e ∙ sym (append-nil S.line)) in
    let one = one_reading same alone in
    (one.0, one.1, one.2)

-- So do equal lines of those that we print: the settings of two listings are compared by their first lines.
pub equal_printed_lines_equal_settings : {letters letters' : List ℕ} {k k' mirror mirror' : ℕ} → settings_ground (the_settings letters k mirror) ≡ None
    → settings_ground (the_settings letters' k' mirror') ≡ None → survey_line (the_settings letters k mirror) ≡ survey_line (the_settings letters' k' mirror')
    → (letters ≡ letters') × (k ≡ k') × (mirror ≡ mirror')
equal_printed_lines_equal_settings {letters} {letters'} {k} {k'} {mirror} {mirror'} passed passed' e =
    let v = values_good letters k mirror passed in
    let v' = values_good letters' k' mirror' passed' in
    one_row _ _ v.letters_good v.k_good v.mirror_good (printed_line (the_settings letters k mirror))
    v'.letters_good v'.k_good v'.mirror_good (e ∙ printed_line (the_settings letters' k' mirror'))
