-- From the grammar to the reader: a survey line of the grammar is read (`in_order_lem`), a line with its forms in another order is told (`in_another_order`), and
-- with a further form both are neither (`further_form`, `further_form_in_another_order`), though the first three forms have one reading (`one_row`). From the
-- laws of one form (FormLaws) and of the line's end (LineEnds).
use Rattle.std.proofs.Common.{◌≡◌, refl, sym, ap, ◌∙◌, true, List, [], ◌∷◌, ◌++◌, ℕ, ◌+◌, length, take, drop, Option, Some, Err}
use mathlib.Core.List.{append_cancel_right}
use lib.Seq.{take-append_seam}
use Rattle.laws.specs.Text.{bytes}
use Rattle.survey.specs.declared.Name.{Name}
use Rattle.survey.specs.declared.Name.TheVariants.{Letters, K, Mirror}
use Rattle.survey.specs.declared.Form.{Form}
use Rattle.settings.specs.declared.Refusal.TheVariants.{NoSurveyLine, FormOrder}
use Rattle.std.proofs.lemmas.Option.{same_Some}
use Rattle.survey.specs.Forms.{settings_forms, unclosed, line_of}
use Rattle.survey.specs.Grammar.{InOrder, as_listed, InAnotherOrder, xzy, yxz, yzx, zxy, zyx, LineEnd, LettersText, KText, MirrorText}
use Rattle.settings.specs.Grounds.{given}
use Rattle.survey.specs.Claims.{input_parts}
use Rattle.survey.specs.Reading.{starts_with, read_form, form_at, next_form, end_after, line_end, in_order, each_once, by_order, head_of, line_from, read_line, read_input}
use Rattle.survey.proofs.ValueLaws.{ValueText}
use Rattle.survey.proofs.FormLaws.{opening, written, row, flat_forms, row_is, form_there, drop_more}
use Rattle.survey.proofs.LineEnds.{end_there, end_open}

-- What is read of three forms of these names and values, wherever they stand: each of them, and the answer by the end that is found after them.
pub record RowThere (t : List ℕ) (a b c : Name) (x y z : List ℕ) (v w u : ℕ) (after : List ℕ) : Type 0 where
  pub first : ℕ
  pub second : ℕ
  pub third : ℕ
  pub is_first : form_at t 8 ≡ Some (read_form a first (length x) v)
  pub is_second : next_form t (Some (read_form a first (length x) v)) ≡ Some (read_form b second (length y) w)
  pub is_third : next_form t (Some (read_form b second (length y) w)) ≡ Some (read_form c third (length z) u)
  pub is : read_line t ≡ head_of (end_after t (third + length z)) (Some (read_form a first (length x) v)) (Some (read_form b second (length y) w)) (Some (read_form c third (length z) u))
  pub at_first : take (length x) (drop first t) ≡ x
  pub follows : drop (third + length z) t ≡ bytes ")" ++ after

line_is : (t : List ℕ) (a b c : Option Form) → starts_with (bytes "(survey ") t ≡ true → form_at t 8 ≡ a → next_form t a ≡ b → next_form t b ≡ c
    → read_line t ≡ head_of (line_end t c) a b c
unfolding read_line line_from
line_is t a b c s ha hb hc = rw (s, ha, hb, hc)

-- A form of the grammar stands at a place, and w follows its bracket.
record Stands (t : List ℕ) (at : ℕ) (name : Name) (v w : List ℕ) (number : ℕ) : Type 0 where
  text : drop at t ≡ opening name ++ (v ++ (41 ∷ w))
  good : ValueText name v number

module _ {t : List ℕ} {at : ℕ} {name : Name} {v w : List ℕ} {number : ℕ} (S : Stands t at name v w number) where
  value_at : drop (at + length (opening name)) t ≡ v ++ (41 ∷ w)
  value_at = drop_more t at (opening name) (v ++ (41 ∷ w)) S.text

  after_value : drop (at + length (opening name) + length v) t ≡ 41 ∷ w
  after_value = drop_more t (at + length (opening name)) v (41 ∷ w) value_at

  taken : take (length v) (drop (at + length (opening name)) t) ≡ v
  taken = ap (take (length v)) value_at ∙ take-append_seam v (41 ∷ w)

  read_there : form_at t at ≡ Some (read_form name (at + length (opening name)) (length v) number)
  read_there = form_there t at v w number name S.text S.good

-- The form after it, where a space and then u follow.
module _ {t : List ℕ} {at : ℕ} {name : Name} {v u : List ℕ} {number : ℕ} (S : Stands t at name v (32 ∷ u) number) where
  next_is : next_form t (Some (read_form name (at + length (opening name)) (length v) number)) ≡ form_at t (at + length (opening name) + length v + 2)
  unfolding next_form starts_with
  next_is = rw (after_value S)

  next_at : drop (at + length (opening name) + length v + 2) t ≡ u
  next_at = drop_more t (at + length (opening name) + length v) (bytes ") ") u (after_value S)

-- Three forms of the grammar in a row are read one after the other, whatever follows them.
pub row_there : (t : List ℕ) (a b c : Name) {x y z after : List ℕ} {v w u : ℕ} → ValueText a x v → ValueText b y w → ValueText c z u
    → t ≡ unclosed (written a x ∷ written b y ∷ written c z ∷ []) ++ after → RowThere t a b c x y z v w u after
unfolding starts_with line_end
row_there t a b c {x} {y} {z} {after} {v} {w} {u} A B C whole =
    let e = whole ∙ sym (flat_forms (opening a) x (opening b) y (opening c) z after) in
    let third-on = opening c ++ (z ++ (bytes ")" ++ after)) in
    let second-on = opening b ++ (y ++ (bytes ") " ++ third-on)) in
    let S : Stands t 8 a x (32 ∷ second-on) v = record { text = ap (drop 8) e; good = A } in
    let f = 8 + length (opening a) in
    let T : Stands t (f + length x + 2) b y (32 ∷ third-on) w = record { text = next_at S; good = B } in
    let g = f + length x + 2 + length (opening b) in
    let R : Stands t (g + length y + 2) c z after u = record { text = next_at T; good = C } in
    record {
      first = f;
      second = g;
      third = g + length y + 2 + length (opening c);
      is_first = read_there S;
      is_second = next_is S ∙ read_there T;
      is_third = next_is T ∙ read_there R;
      is = line_is t _ _ _ (rw e) (read_there S) (next_is S ∙ read_there T) (next_is T ∙ read_there R);
      at_first = taken S;
      follows = after_value R;
    }

-- The answer where the line is closed after them, and ends.
record LineThere (t : List ℕ) (a b c : Name) (x y z : List ℕ) (v w u : ℕ) (file : List ℕ) : Type 0 where
  first : ℕ
  second : ℕ
  third : ℕ
  next : ℕ
  is : read_line t ≡ head_of (Some next) (Some (read_form a first (length x) v)) (Some (read_form b second (length y) w)) (Some (read_form c third (length z) u))
  at_first : take (length x) (drop first t) ≡ x
  rest : drop next t ≡ file

line_there : (t : List ℕ) (a b c : Name) {x y z end file : List ℕ} {v w u : ℕ} → ValueText a x v → ValueText b y w → ValueText c z u
    → LineEnd end file → t ≡ row (written a x) (written b y) (written c z) end file → LineThere t a b c x y z v w u file
line_there t a b c {x} {y} {z} {end} {file} A B C E whole =
    let r = row_there t a b c A B C (whole ∙ row_is (written a x) (written b y) (written c z) end file) in
    let F = end_there t (r.third + length z) E r.follows in
    record {
      first = r.first;
      second = r.second;
      third = r.third;
      next = F.next;
      is = rw F.is at r.is;
      at_first = r.at_first;
      rest = F.rest;
    }

-- The letters are those of the first form.
pub in_order_lem : {t letters k_text mirror_text line end file : List ℕ} {k mirror : ℕ} → LettersText letters → KText k_text k → MirrorText mirror_text mirror
    → LineEnd end file → InOrder (settings_forms letters k_text mirror_text) line → t ≡ line ++ (end ++ file)
    → read_input t ≡ given (input_parts letters k mirror file)
unfolding read_input head_of by_order in_order
in_order_lem {t} letters k mirror end as_listed e =
    let r = line_there t Letters K Mirror (letters, refl) k mirror end e in
    rw (r.is, r.at_first, r.rest)

pub in_another_order : {t letters k_text mirror_text line end file : List ℕ} {k mirror : ℕ} → LettersText letters → KText k_text k
    → MirrorText mirror_text mirror → LineEnd end file → InAnotherOrder (settings_forms letters k_text mirror_text) line
    → t ≡ line ++ (end ++ file) → read_line t ≡ Err FormOrder
unfolding head_of by_order in_order each_once
in_another_order {t} letters k mirror end xzy e = (line_there t Letters Mirror K (letters, refl) mirror k end e).is
in_another_order {t} letters k mirror end yxz e = (line_there t K Letters Mirror k (letters, refl) mirror end e).is
in_another_order {t} letters k mirror end yzx e = (line_there t K Mirror Letters k mirror (letters, refl) end e).is
in_another_order {t} letters k mirror end zxy e = (line_there t Mirror Letters K mirror (letters, refl) k end e).is
in_another_order {t} letters k mirror end zyx e = (line_there t Mirror K Letters mirror k (letters, refl) end e).is

-- Three forms, and in place of the closing bracket a space and more: neither.
open_row : (a b c : Name) (x y z : List ℕ) (v w u : ℕ) (part rest : List ℕ) → ValueText a x v → ValueText b y w → ValueText c z u
    → line_of (written a x ∷ written b y ∷ written c z ∷ []) ≡ part ++ bytes ")" → read_line (part ++ (bytes " " ++ rest)) ≡ Err NoSurveyLine
unfolding head_of
open_row a b c x y z v w u part rest A B C e =
    let t = part ++ (bytes " " ++ rest) in
    let same = append_cancel_right (unclosed (written a x ∷ written b y ∷ written c z ∷ [])) part (bytes ")") e in
    let r = row_there t a b c A B C (ap (λ (p : List ℕ). p ++ (bytes " " ++ rest)) (sym same)) in
    rw (end_open t (r.third + length z) r.follows) at r.is

pub further_form : {letters k_text mirror_text line : List ℕ} {k mirror : ℕ} (part rest : List ℕ) → LettersText letters → KText k_text k
    → MirrorText mirror_text mirror → InOrder (settings_forms letters k_text mirror_text) line → line ≡ part ++ bytes ")"
    → read_line (part ++ (bytes " " ++ rest)) ≡ Err NoSurveyLine
further_form part rest letters k mirror as_listed e = open_row Letters K Mirror _ _ _ _ _ _ part rest (letters, refl) k mirror e

pub further_form_in_another_order : {letters k_text mirror_text line : List ℕ} {k mirror : ℕ} (part rest : List ℕ) → LettersText letters → KText k_text k
    → MirrorText mirror_text mirror → InAnotherOrder (settings_forms letters k_text mirror_text) line → line ≡ part ++ bytes ")"
    → read_line (part ++ (bytes " " ++ rest)) ≡ Err NoSurveyLine
further_form_in_another_order part rest letters k mirror xzy e = open_row Letters Mirror K _ _ _ _ _ _ part rest (letters, refl) mirror k e
further_form_in_another_order part rest letters k mirror yxz e = open_row K Letters Mirror _ _ _ _ _ _ part rest k (letters, refl) mirror e
further_form_in_another_order part rest letters k mirror yzx e = open_row K Mirror Letters _ _ _ _ _ _ part rest k mirror (letters, refl) e
further_form_in_another_order part rest letters k mirror zxy e = open_row Mirror Letters K _ _ _ _ _ _ part rest mirror (letters, refl) k e
further_form_in_another_order part rest letters k mirror zyx e = open_row Mirror K Letters _ _ _ _ _ _ part rest mirror k (letters, refl) e

-- Whatever follows them, the settings' forms at the start of a text are those of one settings.
pub one_row : {t letters letters' k_text k_text' mirror_text mirror_text' : List ℕ} {k k' mirror mirror' : ℕ} (after after' : List ℕ) → LettersText letters
    → KText k_text k → MirrorText mirror_text mirror → t ≡ unclosed (settings_forms letters k_text mirror_text) ++ after → LettersText letters' → KText k_text' k'
    → MirrorText mirror_text' mirror' → t ≡ unclosed (settings_forms letters' k_text' mirror_text') ++ after'
    → (letters ≡ letters') × (k ≡ k') × (mirror ≡ mirror')
one_row {t} after after' letters k mirror e letters' k' mirror' e' =
    let r = row_there t Letters K Mirror (letters, refl) k mirror e in
    let r' = row_there t Letters K Mirror (letters', refl) k' mirror' e' in
    let a = same_Some _ _ (sym r.is_first ∙ r'.is_first) in
    let b = same_Some _ _ (sym r.is_second ∙ ap (λ (f : Form). next_form t (Some f)) a ∙ r'.is_second) in
    let c = same_Some _ _ (sym r.is_third ∙ ap (λ (f : Form). next_form t (Some f)) b ∙ r'.is_third) in (
      sym r.at_first ∙ ap (λ (f : Form). take f.len (drop f.from t)) a ∙ r'.at_first,
      ap (λ (f : Form). f.number) b,
      ap (λ (f : Form). f.number) c,
    )
