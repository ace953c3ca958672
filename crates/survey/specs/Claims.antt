-- What the reader answers, in the terms of documents 01 and 02, and its contract. Claimed of it in proofs/Theorems.antt: the parts of an input are given exactly
-- where it is a `SurveyInput` of these parts, 19 exactly where it is an `OtherOrderInput`, and 13 exactly where it is `Neither`.
use Rattle.std.specs.Prelude.{◌≡◌, List, ℕ, ◌+◌, ◌≤◌, length, take, drop, Result, Ok, Err}
use Rattle.settings.specs.Grounds.{Outcome, given, refused, ground_of}
use Rattle.settings.specs.declared.Refusal.{Refusal}
use Rattle.survey.specs.declared.Survey.{Survey}
use Rattle.survey.specs.Grammar.{SurveyInput, OtherOrderInput}

-- "a survey line, then a sequence file": the letters, k, the mirror's number, and the file's bytes.
pub record InputParts : Type 0 where
  pub letters : List ℕ
  pub k : ℕ
  pub mirror : ℕ
  pub file : List ℕ

abbrev pub input_parts : (letters : List ℕ) (k mirror : ℕ) (file : List ℕ) → InputParts
input_parts letters k mirror file = record { letters = letters; k = k; mirror = mirror; file = file }

-- The reader's answer as document 01's value: the parts that it points to; or 13, "standard input's first line is no survey line"; or "19, not 13, when just
-- these three forms are there, each once and well formed, in another order" (document 02, K5).
abbrev pub of_head : (input : List ℕ) → Result Survey Refusal → Outcome InputParts
of_head input (Ok s) = given (input_parts (take s.len (drop s.from input)) s.k s.mirror (drop s.next input))
of_head input (Err f) = refused (ground_of f)

-- What an answer points to lies inside the input.
abbrev pub Inside : (input : List ℕ) → Result Survey Refusal → Type 0
Inside input (Ok s) = (s.from + s.len ≤ length input) × (s.next ≤ length input)
Inside input (Err f) = Unit

-- The contract of `survey_reader::read_line`: the answer is what the input is read as (`read_input`, in Reading), and lies inside it.
pub record ReadsLine (input : List ℕ) (read : Outcome InputParts) (r : Result Survey Refusal) : Type 0 where
  pub answers : of_head input r ≡ read
  pub inside : Inside input r

-- The input starts neither with a survey line, whatever its letters, k, mirror and file, nor with one whose forms stand in another order.
pub record Neither (t : List ℕ) : Type 0 where
  pub no_survey : {letters : List ℕ} {k mirror : ℕ} {file : List ℕ} → SurveyInput t letters k mirror file → ⊥
  pub no_other_order : OtherOrderInput t → ⊥
