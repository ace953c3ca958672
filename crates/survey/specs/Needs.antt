-- What the reader's functions ask of each other; no claim leans on it.
use Rattle.std.specs.Prelude.{◌≡◌, ℕ, ◌+◌, ◌≤◌, List, length, Option, None, Some}
use Rattle.survey.specs.declared.Form.{Form}
use Rattle.survey.specs.Reading.{form_at, next_form}

-- The value of a form lies inside the input.
abbrev pub Within : List ℕ → Form → Type 0
Within t f = f.from + f.len ≤ length t

-- Three forms that were read in a row, from the first one's place on; the third is not there where one before it is not.
abbrev pub InARow : (t : List ℕ) (at : ℕ) → Option (Form × Form × Form) → Type 0
InARow t at None = next_form t (next_form t (form_at t at)) ≡ None
InARow t at (Some (a, b, c)) = (form_at t at ≡ Some a) × (next_form t (Some a) ≡ Some b) × (next_form t (Some b) ≡ Some c) × Within t c
