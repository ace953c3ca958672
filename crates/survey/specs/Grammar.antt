-- Document 01, "Listing and counter program", and document 02, K5 and K6: what a survey line that is read is, sentence by sentence, and what a line with its
-- forms in another order is. `SurveyInput` and `OtherOrderInput` are the wholes; they say what the input is made of and nothing of how it is read.
use Rattle.std.specs.Prelude.{◌≡◌, ◌≢◌, List, [], ◌∷◌, ◌++◌, ℕ, ◌+◌, ◌-◌, ◌*◌, ◌≤◌, length, get_or}
use Rattle.laws.specs.Text.{bytes}
use Rattle.laws.specs.Each.{Each}
use Rattle.survey.specs.Forms.{settings_forms, line_of}

-- "letters are one or more bytes other than brackets, spaces, CR and LF"
abbrev pub LetterByte : ℕ → Type 0
LetterByte b = Each (λ (other : ℕ). b ≢ other) (bytes "() \r\n")

pub record LettersText (text : List ℕ) : Type 0 where
  pub some : 1 ≤ length text
  pub each : Each LetterByte text

-- The bytes 0 to 9, and the number that they spell after the number v.
abbrev pub Digit : ℕ → Type 0
Digit b = (48 ≤ b) × (b ≤ 57)

unfoldable pub spelt : (v : ℕ) → List ℕ → ℕ
spelt v [] = v
spelt v (d ∷ digits) = spelt (v * 10 + (d - 48)) digits

-- "k is 1 to 3 digits with no leading zero except 0 itself": where the first digit is 0, it is the only one.
pub record KText (text : List ℕ) (k : ℕ) : Type 0 where
  pub some : 1 ≤ length text
  pub few : length text ≤ 3
  pub each : Each Digit text
  pub no_leading_zero : get_or text 0 0 ≡ 48 → length text ≡ 1
  pub value : k ≡ spelt 0 text

-- "The mirror is one or more small letters: `reversal` is 0, `complement` 1, others give 2."
abbrev pub SmallLetter : ℕ → Type 0
SmallLetter b = (97 ≤ b) × (b ≤ 122)

pub data MirrorNumber : List ℕ → ℕ → Type 0 where
  reversal : MirrorNumber (bytes "reversal") 0
  complement : MirrorNumber (bytes "complement") 1
  another : {text : List ℕ} → text ≢ bytes "reversal" → text ≢ bytes "complement" → MirrorNumber text 2

pub record MirrorText (text : List ℕ) (mirror : ℕ) : Type 0 where
  pub some : 1 ≤ length text
  pub each : Each SmallLetter text
  pub number : MirrorNumber text mirror

-- "They now stand as letters, k, mirror" (document 02, K5): the forms as they are listed.
pub data InOrder (forms : List (List ℕ)) : (line : List ℕ) → Type 0 where
  as_listed : InOrder forms (line_of forms)

-- "just these three forms are there, each once .. in another order" (K5): the five others.
pub data InAnotherOrder : (forms : List (List ℕ)) (line : List ℕ) → Type 0 where
  xzy : {x y z : List ℕ} → InAnotherOrder (x ∷ y ∷ z ∷ []) (line_of (x ∷ z ∷ y ∷ []))
  yxz : {x y z : List ℕ} → InAnotherOrder (x ∷ y ∷ z ∷ []) (line_of (y ∷ x ∷ z ∷ []))
  yzx : {x y z : List ℕ} → InAnotherOrder (x ∷ y ∷ z ∷ []) (line_of (y ∷ z ∷ x ∷ []))
  zxy : {x y z : List ℕ} → InAnotherOrder (x ∷ y ∷ z ∷ []) (line_of (z ∷ x ∷ y ∷ []))
  zyx : {x y z : List ℕ} → InAnotherOrder (x ∷ y ∷ z ∷ []) (line_of (z ∷ y ∷ x ∷ []))

-- "The survey line read ends in LF, CR LF or with the input": the line's end and the file after it.
pub data LineEnd : (end file : List ℕ) → Type 0 where
  lf : {file : List ℕ} → LineEnd (bytes "\n") file
  crlf : {file : List ℕ} → LineEnd (bytes "\r\n") file
  with_the_input : LineEnd [] []

-- The input is a line with the settings' forms, well formed, as `Order` has them, its end, and then a file. Well formed is a matter of shape: k may be 0 and
-- the mirror any name. "The line that the program reads has no such form" (document 02, K6): none for the number of classes.
pub record LineInput (Order : (forms : List (List ℕ)) (line : List ℕ) → Type 0) (input letters : List ℕ) (k mirror : ℕ) (file : List ℕ) : Type 0 where
  pub k_text : List ℕ
  pub mirror_text : List ℕ
  pub line : List ℕ
  pub end : List ℕ
  pub letters_good : LettersText letters
  pub k_good : KText k_text k
  pub mirror_good : MirrorText mirror_text mirror
  pub order : Order (settings_forms letters k_text mirror_text) line
  pub ends : LineEnd end file
  pub whole : input ≡ line ++ (end ++ file)

-- "The program reads standard input: a survey line, then a sequence file." The input is a survey line with these letters, k and mirror,
-- and then this file.
abbrev pub SurveyInput : (input letters : List ℕ) (k mirror : ℕ) (file : List ℕ) → Type 0
SurveyInput = LineInput InOrder

-- 19 (document 02, K5): "just these three forms are there, each once and well formed, in another order".
pub record OtherOrderInput (input : List ℕ) : Type 0 where
  pub letters : List ℕ
  pub k : ℕ
  pub mirror : ℕ
  pub file : List ℕ
  pub is : LineInput InAnotherOrder input letters k mirror file
