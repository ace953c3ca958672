-- A form at a place: what the reader takes for one is a form of the grammar (`form_good`), and a form of the grammar is read (`form_there`).
use Rattle.std.proofs.Common.{◌≡◌, refl, sym, ap, ◌∙◌, true, List, [], ◌∷◌, ◌++◌, append_assoc, append-nil, ℕ, ◌+◌, ◌-◌, ◌≤◌, arith, length, take, drop, length-drop, take-append-drop, drop-drop, Option, None, Some}
use lib.Seq.{drop-append_seam}
use Rattle.laws.specs.Text.{bytes}
use Rattle.laws.proofs.Tests.{by_test}
use Rattle.survey.specs.declared.Name.{Name}
use Rattle.survey.specs.declared.Name.TheVariants.{Letters, K, Mirror}
use Rattle.survey.specs.declared.Form.{Form}
use Rattle.survey.specs.Needs.{Within}
use Rattle.survey.specs.Forms.{unclosed, line_of}
use Rattle.survey.specs.Reading.{starts_with, stretch, value_byte, sized, read_form, form_of, form_from, form_at, next_form, line_end, head_of, line_from}
use Rattle.survey.proofs.TextLaws.{starts_at}
use Rattle.survey.proofs.ByteLaws.{stretch-le}
use Rattle.survey.proofs.ValueLaws.{ValueText, some_bytes, value_read, value_there}

-- What stands before a form's value.
abbrev pub opening : Name → List ℕ
opening Letters = bytes "(letters "
opening K = bytes "(k "
opening Mirror = bytes "(mirror "

-- A form as it is written.
abbrev pub written : Name → List ℕ → List ℕ
written name value = opening name ++ (value ++ bytes ")")

-- A line of three forms as they are written, its end and the file.
abbrev pub row : (x y z end file : List ℕ) → List ℕ
row x y z end file = line_of (x ∷ y ∷ z ∷ []) ++ (end ++ file)

-- Three forms and what follows them, with no brackets around the parts.
abbrev pub flat : (a x b y c z after : List ℕ) → List ℕ
flat a x b y c z after = bytes "(survey " ++ (a ++ (x ++ (bytes ") " ++ (b ++ (y ++ (bytes ") " ++ (c ++ (z ++ (bytes ")" ++ after)))))))))

pub flat_forms : (a x b y c z after : List ℕ)
    → flat a x b y c z after ≡ unclosed ((a ++ (x ++ bytes ")")) ∷ (b ++ (y ++ bytes ")")) ∷ (c ++ (z ++ bytes ")")) ∷ []) ++ after
flat_forms a x b y c z after = simp (append_assoc, append-nil)

-- A text that is made of these parts, one after the other.
pub flat_of : (a x b y c z after : List ℕ) {t d e d' e' d'' e'' : List ℕ} → t ≡ bytes "(survey " ++ d → d ≡ a ++ (x ++ e) → e ≡ bytes ") " ++ d'
    → d' ≡ b ++ (y ++ e') → e' ≡ bytes ") " ++ d'' → d'' ≡ c ++ (z ++ e'') → e'' ≡ bytes ")" ++ after → t ≡ flat a x b y c z after
flat_of a x b y c z after p q r s u v w = rw (p, q, r, s, u, v, w)

-- What follows the three forms of a line is its closing bracket, its end and the file.
pub row_is : (x y z end file : List ℕ) → row x y z end file ≡ unclosed (x ∷ y ∷ z ∷ []) ++ (bytes ")" ++ (end ++ file))
row_is x y z end file = append_assoc (unclosed (x ∷ y ∷ z ∷ [])) (bytes ")") (end ++ file)

-- A value of an admitted length has a byte, so it lies inside the input.
pub value_inside : (t : List ℕ) (name : Name) (from n : ℕ) → n ≡ stretch (value_byte name) (drop from t) → sized name (drop from t) n ≡ true
    → from + n ≤ length t
value_inside t name from n e s = omega (arith, some_bytes (drop from t) n name s, stretch-le (value_byte name) (drop from t), length-drop from t)

pub end_inside : (t : List ℕ) (name : Name) (from : ℕ) {end : ℕ} → end ≡ from + stretch (value_byte name) (drop from t)
    → sized name (drop from t) (end - from) ≡ true → from + (end - from) ≤ length t
end_inside t name from e s = value_inside t name from _ (omega arith) s

-- The form that was read stands at the place; if a bracket follows, its value and number are the grammar's.
pub record FormRead (t : List ℕ) (at : ℕ) (f : Form) : Type 0 where
  pub text : drop at t ≡ opening f.name ++ (take f.len (drop f.from t) ++ drop (f.from + f.len) t)
  pub inside : Within t f
  pub means : (w : List ℕ) → drop (f.from + f.len) t ≡ 41 ∷ w → ValueText f.name (take f.len (drop f.from t)) f.number

abbrev pub FormGood : List ℕ → ℕ → Option Form → Type 0
FormGood t at None = Unit
FormGood t at (Some f) = FormRead t at f

module _ (t : List ℕ) (at : ℕ) where
  from_good : (name : Name) (from : ℕ) → from ≡ at + length (opening name) → starts_with (opening name) (drop at t) ≡ true
      → FormGood t at (form_from t name from)
  unfolding form_from form_of
  from_good name from f e =
      let u = drop from t in
      let n = stretch (value_byte name) u in
      let rest : drop n u ≡ drop (from + n) t = drop-drop n from t in
      let opened : drop at t ≡ opening name ++ u = rw f (starts_at (opening name) t at e) in
      by_test (FormGood t at) (sized name u n)
      (λ s. record {
        text = opened ∙ ap (λ (l : List ℕ). opening name ++ l) (sym (take-append-drop n u) ∙ ap (λ (l : List ℕ). take n u ++ l) rest);
        inside = value_inside t name from n refl s;
        means = λ w c. value_read name u w n refl s (rest ∙ c);
      })
      (λ s. tt)

  pub form_good : FormGood t at (form_at t at)
  unfolding form_at
  form_good =
      by_test (FormGood t at) (starts_with (bytes "(letters ") (drop at t)) (from_good Letters (at + 9) refl)
      (λ e. by_test (FormGood t at) (starts_with (bytes "(k ") (drop at t)) (from_good K (at + 3) refl)
      (λ f. by_test (FormGood t at) (starts_with (bytes "(mirror ") (drop at t)) (from_good Mirror (at + 8) refl) (λ g. tt)))

-- So is the value of each form that is read.
pub form-within : (t : List ℕ) (at : ℕ) {f : Form} → form_at t at ≡ Some f → Within t f
form-within t at e = let good : FormRead t at _ = rw e at (form_good t at) in good.inside

pub next-within : (t : List ℕ) (f : Form) {g : Form} → next_form t (Some f) ≡ Some g → Within t g
unfolding next_form
next-within t f {g} =
    by_test (λ (o : Option Form). o ≡ Some g → Within t g) (starts_with (bytes ") ") (drop (f.from + f.len) t)) (λ s. form-within t (f.from + f.len + 2))
    (λ s e. cc)

-- ---- from the grammar

pub drop_more : (t : List ℕ) (at : ℕ) (p q : List ℕ) → drop at t ≡ p ++ q → drop (at + length p) t ≡ q
drop_more t at p q e = sym (drop-drop (length p) at t) ∙ ap (drop (length p)) e ∙ drop-append_seam p q

module _ (t : List ℕ) (at : ℕ) (v w : List ℕ) (number : ℕ) where
  from_there : (name : Name) (from : ℕ) → drop from t ≡ v ++ (41 ∷ w) → ValueText name v number
      → form_from t name from ≡ Some (read_form name from (length v) number)
  unfolding form_from
  from_there name from e h = rw e (value_there name v w number from h)

  pub form_there : (name : Name) → drop at t ≡ opening name ++ (v ++ (41 ∷ w)) → ValueText name v number
      → form_at t at ≡ Some (read_form name (at + length (opening name)) (length v) number)
  unfolding form_at starts_with
  form_there Letters e h = rw e (from_there Letters (at + 9) (drop_more t at (opening Letters) (v ++ (41 ∷ w)) e) h)
  form_there K e h = rw e (from_there K (at + 3) (drop_more t at (opening K) (v ++ (41 ∷ w)) e) h)
  form_there Mirror e h = rw e (from_there Mirror (at + 8) (drop_more t at (opening Mirror) (v ++ (41 ∷ w)) e) h)

-- ---- what `line_from` makes of its steps

-- The line's end is known to be e'.
pub line_made : (t : List ℕ) (at : ℕ) (a b c : Option Form) (e e' : Option ℕ) → a ≡ form_at t at → b ≡ next_form t a → c ≡ next_form t b → e ≡ line_end t c
    → e ≡ e' → head_of e' a b c ≡ line_from t at
unfolding line_from
line_made t at a b c e e' ha hb hc he told = rw (← told, he, hc, hb, ha)
