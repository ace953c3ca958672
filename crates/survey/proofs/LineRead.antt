-- From the reader to the grammar, `line_good`: where the reader finds a survey line, the input is one, with these letters, k, mirror and file; where it
-- finds a line in another order, the input is one. And what it points to lies inside the input: so `read_line` keeps its contract (`reads_line`). From the laws
-- of one form (FormLaws) and of the line's end (LineEnds).
use Rattle.std.proofs.Common.{◌≡◌, refl, sym, ap, ◌∙◌, ◌⊎◌, inl, inr, true, List, [], ◌∷◌, ◌++◌, ℕ, ◌+◌, ◌≤◌, length, take, drop, Option, None, Some, Result, Ok, Err}
use Rattle.settings.specs.declared.Refusal.{Refusal}
use Rattle.settings.specs.declared.Refusal.TheVariants.{NoSurveyLine, FormOrder}
use Rattle.laws.specs.Text.{bytes}
use Rattle.laws.proofs.Tests.{by_test}
use Rattle.survey.specs.declared.Name.{Name}
use Rattle.survey.specs.declared.Name.TheVariants.{Letters, K, Mirror}
use Rattle.survey.specs.declared.Form.{Form}
use Rattle.survey.specs.declared.Survey.{Survey}
use Rattle.survey.specs.Forms.{settings_forms, line_of}
use Rattle.survey.specs.Grammar.{as_listed, InAnotherOrder, xzy, yxz, yzx, zxy, zyx, LineEnd, LettersText, KText, MirrorText, LineInput, SurveyInput, OtherOrderInput}
use Rattle.survey.specs.Claims.{Inside, ReadsLine, of_head}
use Rattle.survey.specs.Needs.{Within}
use Rattle.survey.specs.Reading.{starts_with, read_form, form_at, next_form, end_after, line_end, in_order, each_once, by_order, head_of, line_from, read_line, read_input}
use Rattle.survey.proofs.TextLaws.{starts_at}
use Rattle.survey.proofs.ValueLaws.{ValueText}
use Rattle.survey.proofs.FormLaws.{opening, written, row, flat_forms, flat_of, row_is, FormRead, FormGood, form_good}
use Rattle.survey.proofs.LineEnds.{EndRead, EndGood, end_good}

-- An input that is made of these parts, one after the other.
joined : (a x b y c z end file : List ℕ) {t d e d' e' d'' e'' : List ℕ} → t ≡ bytes "(survey " ++ d → d ≡ a ++ (x ++ e)
    → e ≡ bytes ") " ++ d' → d' ≡ b ++ (y ++ e') → e' ≡ bytes ") " ++ d'' → d'' ≡ c ++ (z ++ e'') → e'' ≡ bytes "))" ++ (end ++ file)
    → t ≡ row (a ++ (x ++ bytes ")")) (b ++ (y ++ bytes ")")) (c ++ (z ++ bytes ")")) end file
joined a x b y c z end file p q r s u v w =
    flat_of a x b y c z (bytes ")" ++ (end ++ file)) p q r s u v w
    ∙ flat_forms a x b y c z (bytes ")" ++ (end ++ file))
    ∙ sym (row_is (a ++ (x ++ bytes ")")) (b ++ (y ++ bytes ")")) (c ++ (z ++ bytes ")")) end file)

-- What an answer says of the input; that there is no survey line says nothing, and there is no refusal besides 13 and 19.
abbrev pub Fine : List ℕ → Result Survey Refusal → Type 0
Fine t (Ok s) = Inside t (Ok s) × SurveyInput t (take s.len (drop s.from t)) s.k s.mirror (drop s.next t)
Fine t (Err f) = (f ≡ NoSurveyLine) ⊎ ((f ≡ FormOrder) × OtherOrderInput t)

-- A form's value, as it stands in the input.
abbrev value_of : List ℕ → Form → List ℕ
value_of t f = take f.len (drop f.from t)

-- Three forms and an end, as they were read: the line ends before the place `next`.
record RowRead (t : List ℕ) (a b c : Form) (next : ℕ) : Type 0 where
  end : List ℕ
  first : ValueText a.name (value_of t a) a.number
  second : ValueText b.name (value_of t b) b.number
  third : ValueText c.name (value_of t c) c.number
  first_in : Within t a
  next_in : next ≤ length t
  ends : LineEnd end (drop next t)
  whole : t ≡ row (written a.name (value_of t a)) (written b.name (value_of t b)) (written c.name (value_of t c)) end (drop next t)

-- Such a row is a line of each order that its three forms, as they stand, have; any of them may be the letters'.
line_in : {Order : (forms : List (List ℕ)) (line : List ℕ) → Type 0} {t : List ℕ} {a b c : Form} {next : ℕ} {letters k_text mirror_text : List ℕ}
    {k mirror : ℕ} → RowRead t a b c next → LettersText letters → KText k_text k → MirrorText mirror_text mirror
    → Order (settings_forms letters k_text mirror_text)
    (line_of (written a.name (value_of t a) ∷ written b.name (value_of t b) ∷ written c.name (value_of t c) ∷ []))
    → LineInput Order t letters k mirror (drop next t)
line_in r letters k mirror order = record {
  k_text = _;
  mirror_text = _;
  line = _;
  end = r.end;
  letters_good = letters;
  k_good = k;
  mirror_good = mirror;
  order = order;
  ends = r.ends;
  whole = r.whole;
}

other : {t letters file : List ℕ} {k mirror : ℕ} → LineInput InAnotherOrder t letters k mirror file → Fine t (Err FormOrder)
other L = inr (refl, record { letters = _; k = _; mirror = _; file = _; is = L })

none : {t : List ℕ} → Fine t (Err NoSurveyLine)
none = inl refl

module _ (t : List ℕ) (next f l v g m w h n x : ℕ) where
  -- Of the 27 rows of three names one is in order and five have the three names in another order; in the others a name is missing.
  by_order_lem : (a b c : Name) → RowRead t (read_form a f l v) (read_form b g m w) (read_form c h n x) next
      → Fine t (head_of (Some next) (Some (read_form a f l v)) (Some (read_form b g m w)) (Some (read_form c h n x)))
  unfolding head_of by_order in_order each_once
  by_order_lem Letters Letters Letters r = none
  by_order_lem Letters Letters K r = none
  by_order_lem Letters Letters Mirror r = none
  by_order_lem Letters K Letters r = none
  by_order_lem Letters K K r = none
  by_order_lem Letters K Mirror r =
      ((r.first_in, r.next_in), line_in r r.first.0 r.second r.third as_listed)
  by_order_lem Letters Mirror Letters r = none
  by_order_lem Letters Mirror K r = other (line_in r r.first.0 r.third r.second xzy)
  by_order_lem Letters Mirror Mirror r = none
  by_order_lem K Letters Letters r = none
  by_order_lem K Letters K r = none
  by_order_lem K Letters Mirror r = other (line_in r r.second.0 r.first r.third yxz)
  by_order_lem K K Letters r = none
  by_order_lem K K K r = none
  by_order_lem K K Mirror r = none
  by_order_lem K Mirror Letters r = other (line_in r r.third.0 r.first r.second yzx)
  by_order_lem K Mirror K r = none
  by_order_lem K Mirror Mirror r = none
  by_order_lem Mirror Letters Letters r = none
  by_order_lem Mirror Letters K r = other (line_in r r.second.0 r.third r.first zxy)
  by_order_lem Mirror Letters Mirror r = none
  by_order_lem Mirror K Letters r = other (line_in r r.third.0 r.second r.first zyx)
  by_order_lem Mirror K K r = none
  by_order_lem Mirror K Mirror r = none
  by_order_lem Mirror Mirror Letters r = none
  by_order_lem Mirror Mirror K r = none
  by_order_lem Mirror Mirror Mirror r = none

-- The reading step by step: each form that is found stands after the one before.
module _ (t : List ℕ) where
  module _ {a b c : Form} (opened : starts_with (bytes "(survey ") t ≡ true) (A : FormRead t 8 a)
      (p : starts_with (bytes ") ") (drop (a.from + a.len) t) ≡ true) (B : FormRead t (a.from + a.len + 2) b)
      (q : starts_with (bytes ") ") (drop (b.from + b.len) t) ≡ true) (C : FormRead t (b.from + b.len + 2) c) where
    row_read : (next : ℕ) → EndRead t (c.from + c.len) next → RowRead t a b c next
    row_read next E =
        let P = starts_at _ t (a.from + a.len) p in
        let Q = starts_at _ t (b.from + b.len) q in
        record {
          end = E.end;
          first = A.means _ P;
          second = B.means _ Q;
          third = C.means _ E.text;
          first_in = A.inside;
          next_in = E.inside;
          ends = E.ends;
          whole = joined (opening a.name) (value_of t a) (opening b.name) (value_of t b) (opening c.name) (value_of t c) E.end (drop next t)
              (starts_at _ t 0 opened) A.text P B.text Q C.text E.text;
        }

    ended : (e : Option ℕ) → EndGood t (c.from + c.len) e → Fine t (head_of e (Some a) (Some b) (Some c))
    unfolding head_of
    ended None E = none
    ended (Some next) E =
        by_order_lem t next a.from a.len a.number b.from b.len b.number c.from c.len c.number a.name b.name c.name (row_read next E)

  third_good : {a b : Form} → starts_with (bytes "(survey ") t ≡ true → FormRead t 8 a
      → starts_with (bytes ") ") (drop (a.from + a.len) t) ≡ true → FormRead t (a.from + a.len + 2) b
      → starts_with (bytes ") ") (drop (b.from + b.len) t) ≡ true → (c : Option Form) → FormGood t (b.from + b.len + 2) c
      → Fine t (head_of (line_end t c) (Some a) (Some b) c)
  unfolding line_end head_of
  third_good s A p B q None C = none
  third_good s A p B q (Some c) C = ended s A p B q C (end_after t (c.from + c.len)) (end_good t (c.from + c.len))

  second_good : {a : Form} → starts_with (bytes "(survey ") t ≡ true → FormRead t 8 a
      → starts_with (bytes ") ") (drop (a.from + a.len) t) ≡ true → (b : Option Form) → FormGood t (a.from + a.len + 2) b
      → Fine t (head_of (line_end t (next_form t b)) (Some a) b (next_form t b))
  unfolding next_form line_end head_of
  second_good s A p None B = none
  second_good {a} s A p (Some b) B =
      by_test (λ (c : Option Form). Fine t (head_of (line_end t c) (Some a) (Some b) c)) (starts_with (bytes ") ") (drop (b.from + b.len) t))
      (λ q. third_good s A p B q (form_at t (b.from + b.len + 2)) (form_good t (b.from + b.len + 2))) (λ q. none)

  first_good : starts_with (bytes "(survey ") t ≡ true → (a : Option Form) → FormGood t 8 a
      → Fine t (let b = next_form t a in let c = next_form t b in head_of (line_end t c) a b c)
  unfolding next_form line_end head_of
  first_good s None A = none
  first_good s (Some a) A =
      by_test (λ (b : Option Form). Fine t (head_of (line_end t (next_form t b)) (Some a) b (next_form t b))) (starts_with (bytes ") ") (drop (a.from + a.len) t))
      (λ p. second_good s A p (form_at t (a.from + a.len + 2)) (form_good t (a.from + a.len + 2))) (λ p. none)

  pub line_good : Fine t (read_line t)
  unfolding read_line line_from
  line_good = by_test (Fine t) (starts_with (bytes "(survey ") t) (λ s. first_good s (form_at t 8) (form_good t 8)) (λ s. none)

fine_inside : (t : List ℕ) (h : Result Survey Refusal) → Fine t h → Inside t h
fine_inside t (Ok s) F = F.0
fine_inside t (Err f) F = tt

-- What `read_line` answers, in the documents' terms.
pub reads_line : (t : List ℕ) {r : Result Survey Refusal} → r ≡ read_line t → ReadsLine t (read_input t) r
unfolding read_input
reads_line t e = record { answers = ap (of_head t) e; inside = rw e (fine_inside t (read_line t) (line_good t)) }
