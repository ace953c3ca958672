-- Document 01, "Grounds for refusing", and document 02, K1 (15 to 17), K4 (18), K5 (19) and K7 (20 to 22): how a call reports a refusal, and the order in
-- which grounds are tried.
use Rattle.std.specs.Prelude.{ℕ, ◌≡◌, Bool, true, false, cond, List, ◌++◌, length, drop, ltb, Option, None, Some, Result, Ok, Err}
use Rattle.settings.specs.declared.Refusal.{Refusal}
use Rattle.settings.specs.declared.Refusal.TheVariants.{BadLetters, BadMirror, BadK, WrongLength, TooLarge, ShortBuffer, NoSuchCode, ForeignByte, StrayByte, EarlyLetter, CountsFull, NoSurveyLine, LongInput, BadRecord, QualityLength, QualityByte, CountsLacking, FormOrder, BadLine, OtherSettings, BadCount}

-- "Each .. gives its number and P": the number, then P.
abbrev pub Ground : Type 0
Ground = ℕ × ℕ

-- The number and P of each refusal; P "is 0 unless stated". The number 3 is reserved: "Refusal 3 then never occurs" (document 02, K10). Of 15 to 17 "P is
-- the offset of the line (for a missing line the file's length, for 10 and 17 that of the byte)" (document 02, K1); of 20 to 22 "P is the line's offset (for
-- a missing line the text's length)" (K7).
abbrev pub ground_of : Refusal → Ground
ground_of BadLetters = (1, 0)
ground_of BadMirror = (2, 0)
ground_of BadK = (4, 0)
ground_of WrongLength = (5, 0)
ground_of TooLarge = (6, 0)
ground_of (ShortBuffer needed) = (7, needed)
ground_of NoSuchCode = (8, 0)
ground_of (ForeignByte place) = (9, place)
ground_of (StrayByte offset) = (10, offset)
ground_of (EarlyLetter offset) = (11, offset)
ground_of CountsFull = (12, 0)
ground_of NoSurveyLine = (13, 0)
ground_of LongInput = (14, 0)
ground_of (BadRecord offset) = (15, offset)
ground_of (QualityLength offset) = (16, offset)
ground_of (QualityByte offset) = (17, offset)
ground_of CountsLacking = (18, 0)
ground_of FormOrder = (19, 0)
ground_of (BadLine offset) = (20, offset)
ground_of (OtherSettings offset) = (21, offset)
ground_of (BadCount offset) = (22, offset)

-- What a call answers: its value, or the ground for refusing it.
pub data Outcome (A : Type 0) : Type 0 where
  given : A → Outcome A
  refused : Ground → Outcome A

-- The outcome that a function's result tells: its value, or the number and P of the refusal.
abbrev pub outcome_of : {A : Type 0} → Result A Refusal → Outcome A
outcome_of (Ok a) = given a
outcome_of (Err f) = refused (ground_of f)

-- The ground that the result of a search for faults names, if it found one.
abbrev pub fault_of : {A : Type 0} → Result A Refusal → Option Ground
fault_of (Ok a) = None
fault_of (Err f) = Some (ground_of f)

-- Ground n with P = 0, if it applies.
abbrev pub ground : ℕ → Bool → Option Ground
ground n true = Some (n, 0)
ground n false = None

-- Ground n with its P, if it applies: the first place where it is met, or for 7 the length needed.
abbrev pub ground_at : ℕ → Option ℕ → Option Ground
ground_at n None = None
ground_at n (Some p) = Some (n, p)

-- "Checks go in number order", save that 15 to 17 "stand where 10 and 11 stood": the first ground, and only if it does not apply the later ones.
infixr 20 ◌or_else◌
abbrev pub ◌or_else◌ : Option Ground → Option Ground → Option Ground
None or_else later = later
Some g or_else later = Some g

-- The value of a call to which no ground applies; otherwise the first ground that does.
abbrev pub outcome : {A : Type 0} → Option Ground → A → Outcome A
outcome None a = given a
outcome (Some g) a = refused g

-- Ground 7, "a lent buffer too short; P is the length needed": that length, where the buffer has less room.
abbrev pub too_short : (room needed : ℕ) → Option ℕ
too_short room needed = cond (ltb room needed) (Some needed) None

-- What a call leaves: something new where no ground applies, and else what was there: "all change no buffer".
abbrev pub unless_refused : {A : Type 0} → Option Ground → (new old : A) → A
unless_refused None new old = new
unless_refused (Some g) new old = old

-- A lent buffer after a call that overwrites it from its start: the new places and then the old ones; all as before where the call is refused.
abbrev pub overwritten : Option Ground → (places old : List ℕ) → List ℕ
overwritten g places old = unless_refused g (places ++ drop (length places) old) old

-- "A call that overwrites a lent buffer from its start .. answers how many places it set, and changes no later one."
pub record Overwrites (g : Option Ground) (count : ℕ) (places old : List ℕ) (answer : Outcome ℕ) (new : List ℕ) : Type 0 where
  pub answers : answer ≡ outcome g count
  pub leaves : new ≡ overwritten g places old
