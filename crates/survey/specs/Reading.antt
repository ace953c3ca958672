-- The survey line as it is read, from left to right with no way back: `read_line` answers what `read_input` says. That what is read is `SurveyInput` and what is
-- told to be in another order (document 02, K5) is `OtherOrderInput`, and no others, is proved in proofs/Theorems.antt. t is the whole input, and a place
-- counts from its first byte.
use Rattle.std.specs.Prelude.{ℕ, suc, ◌+◌, Bool, true, false, not, ◌&&◌, ◌||◌, cond, List, [], ◌∷◌, length, take, drop, leb, eqb, Option, None, Some, Result, Ok, Err}
use Rattle.laws.specs.Text.{bytes}
use Rattle.settings.specs.Grounds.{Outcome}
use Rattle.settings.specs.Settings.{is_in}
use Rattle.settings.specs.declared.Refusal.{Refusal}
use Rattle.settings.specs.declared.Refusal.TheVariants.{NoSurveyLine, FormOrder}
use Rattle.survey.specs.Grammar.{spelt}
use Rattle.survey.specs.Claims.{InputParts, of_head}
use Rattle.survey.specs.declared.Name.{Name}
use Rattle.survey.specs.declared.Name.TheVariants.{Letters, K, Mirror}
use Rattle.survey.specs.declared.Form.{Form}
use Rattle.survey.specs.declared.Survey.{Survey}

-- Whether an input starts with a text.
unfoldable pub starts_with : (text input : List ℕ) → Bool
starts_with [] input = true
starts_with (b ∷ text) [] = false
starts_with (b ∷ text) (c ∷ input) = eqb c b && starts_with text input

-- How many bytes that pass a test an input starts with.
unfoldable pub stretch : (ℕ → Bool) → List ℕ → ℕ
stretch p [] = 0
stretch p (b ∷ input) = cond (p b) (suc (stretch p input)) 0

-- The bytes of a form's value: for letters all but brackets, space, CR and LF; digits for k; small letters for the mirror.
unfoldable pub value_byte : Name → ℕ → Bool
value_byte Letters b = not (is_in b (bytes "() \r\n"))
value_byte K b = leb 48 b && leb b 57
value_byte Mirror b = leb 97 b && leb b 122

-- Whether the value may be the first n bytes of u: "one or more", and for k "1 to 3 digits with no leading zero except 0 itself".
unfoldable pub sized : Name → (u : List ℕ) (n : ℕ) → Bool
sized Letters u n = leb 1 n
sized K u n = leb 1 n && (leb n 3 && (eqb n 1 || not (starts_with (bytes "0") u)))
sized Mirror u n = leb 1 n

-- "`reversal` is 0, `complement` 1, others give 2"; the bracket shows where the name ends.
unfoldable pub mirror_number : List ℕ → ℕ
mirror_number u = cond (starts_with (bytes "reversal)") u) 0 (cond (starts_with (bytes "complement)") u) 1 2)

-- The number that the first n bytes of u stand for; letters stand for none.
unfoldable pub number_of : Name → (u : List ℕ) (n : ℕ) → ℕ
number_of Letters u n = 0
number_of K u n = spelt 0 (take n u)
number_of Mirror u n = mirror_number u

-- A form that was read, of its parts.
abbrev pub read_form : (name : Name) (from len number : ℕ) → Form
read_form name from len number = record { name = name; from = from; len = len; number = number }

-- The form whose value is the first n bytes of u, which start at the place `from`.
unfoldable pub form_of : Name → (from : ℕ) (u : List ℕ) (n : ℕ) → Option Form
form_of name from u n = cond (sized name u n) (Some (read_form name from n (number_of name u n))) None

-- The form whose value starts at a place; the value goes as far as its bytes do.
unfoldable pub form_from : List ℕ → Name → ℕ → Option Form
form_from t name from = form_of name from (drop from t) (stretch (value_byte name) (drop from t))

-- The form that stands at a place, without its closing bracket.
unfoldable pub form_at : List ℕ → ℕ → Option Form
form_at t at =
    cond (starts_with (bytes "(letters ") (drop at t)) (form_from t Letters (at + 9))
    (cond (starts_with (bytes "(k ") (drop at t)) (form_from t K (at + 3))
    (cond (starts_with (bytes "(mirror ") (drop at t)) (form_from t Mirror (at + 8)) None))

-- The form after a form: "Forms are parted by one space."
unfoldable pub next_form : List ℕ → Option Form → Option Form
next_form t None = None
next_form t (Some f) = cond (starts_with (bytes ") ") (drop (f.from + f.len) t)) (form_at t (f.from + f.len + 2)) None

-- The place after the line whose last value ends before a place: "ends in LF, CR LF or with the input".
unfoldable pub end_after : List ℕ → ℕ → Option ℕ
end_after t at =
    cond (starts_with (bytes "))\n") (drop at t)) (Some (at + 3))
    (cond (starts_with (bytes "))\r\n") (drop at t)) (Some (at + 4))
    (cond (starts_with (bytes "))") (drop at t) && eqb (at + 2) (length t)) (Some (at + 2)) None))

-- The place after the line whose last form this is; nowhere where it is no form.
unfoldable pub line_end : List ℕ → Option Form → Option ℕ
line_end t None = None
line_end t (Some f) = end_after t (f.from + f.len)

-- A form's position among the three, from 0: "They now stand as letters, k, mirror" (document 02, K5).
abbrev pub position : Name → ℕ
position Letters = 0
position K = 1
position Mirror = 2

-- Whether three forms with these names stand each in its position.
unfoldable pub in_order : (a b c : Name) → Bool
in_order a b c = eqb (position a) 0 && (eqb (position b) 1 && eqb (position c) 2)

-- Whether the three names are there "each once": no two are the same.
unfoldable pub each_once : (a b c : Name) → Bool
each_once a b c = not (eqb (position a) (position b)) && (not (eqb (position b) (position c)) && not (eqb (position c) (position a)))

-- A survey line that was read, of its parts.
abbrev pub read_survey : (from len k mirror next : ℕ) → Survey
read_survey from len k mirror next = record { from = from; len = len; k = k; mirror = mirror; next = next }

-- The answer on three forms with these names, which in order are this survey line: "19, not 13" in another order.
unfoldable pub by_order : (a b c : Name) (survey : Survey) → Result Survey Refusal
by_order a b c survey = cond (in_order a b c) (Ok survey) (Err (cond (each_once a b c) FormOrder NoSurveyLine))

-- The answer on three forms in a row and the line's end. In order, k is the second form's number and the mirror the third's.
unfoldable pub head_of : (next : Option ℕ) (first second third : Option Form) → Result Survey Refusal
head_of None first second third = Err NoSurveyLine
head_of (Some next) None second third = Err NoSurveyLine
head_of (Some next) (Some a) None third = Err NoSurveyLine
head_of (Some next) (Some a) (Some b) None = Err NoSurveyLine
head_of (Some next) (Some a) (Some b) (Some c) =
    by_order a.name b.name c.name (read_survey a.from a.len b.number c.number next)

-- Three forms in a row from a place on, and the line's end after them.
unfoldable pub line_from : List ℕ → ℕ → Result Survey Refusal
line_from t at =
    let a = form_at t at in
    let b = next_form t a in
    let c = next_form t b in
    head_of (line_end t c) a b c

-- Where the letters are, k, the mirror, and the first place after the line; or that the line's forms stand in another order; or that the input starts
-- with no survey line.
unfoldable pub read_line : List ℕ → Result Survey Refusal
read_line t = cond (starts_with (bytes "(survey ") t) (line_from t 8) (Err NoSurveyLine)

-- What the input is read as, in the documents' terms.
unfoldable pub read_input : List ℕ → Outcome InputParts
read_input t = of_head t (read_line t)
