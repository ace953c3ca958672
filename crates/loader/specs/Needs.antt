-- What functions ask of each other; no sentence of document 02 rests on it.
use Rattle.std.specs.Prelude.{◌≡◌, Bool, true, false, ◌&&◌, List, [], ◌∷◌, ℕ, ◌+◌, ◌*◌, ◌<◌, ◌≤◌, length, leb, Option, None, Some, Result, Ok, Err}
use Rattle.settings.specs.declared.Refusal.{Refusal}
use Rattle.settings.specs.Grounds.{ground_of, Outcome, Overwrites}
use Rattle.settings.specs.Settings.{settings_ground}
use Rattle.settings.specs.Given.{Given}
use Rattle.tally_book.specs.Table.{class_count}
use Rattle.loading.specs.Shapes.{is_count_line, is_total_line}
use Rattle.loading.specs.declared.Next.{Next}
use Rattle.loading.specs.declared.Next.TheVariants.{Survey, CountOrTotal, Nothing}
use Rattle.loading.specs.Loading.{code_in, count_in, next_after, line_fault, text_fault, loaded_counts}
use Rattle.std.specs.Borrow.{Bor}
use Rattle.lines.specs.Lines.{lines}

-- Good settings with few enough classes for a table.
pub record ForTable (settings : Given) : Type 0 where
  pub good : settings_ground settings ≡ None
  pub few : class_count settings ≤ 16777216

-- The numbers of what belongs next are small, so that no sum of counts wraps.
abbrev pub Bounded : Next → Type 0
Bounded Survey = Unit {0}
Bounded (CountOrTotal low sum) = (low ≤ 16777216) × (sum ≤ low * 4294967295)
Bounded Nothing = Unit {0}

-- The line of a class by its shape, and no total.
pub record ClassLine (letters : List ℕ) (k : ℕ) (l : List ℕ) : Type 0 where
  pub no_total : is_total_line l ≡ false
  pub shaped : is_count_line letters k l ≡ true

-- What a line at an offset is judged to be: passed, with what belongs after it; or at fault.
abbrev pub StepIs : (settings : Given) → Next → (at : ℕ) → List ℕ → Result Next Refusal → Type 0
StepIs settings next at l (Ok after) = (line_fault settings next at l ≡ None) × (after ≡ next_after settings next l) × Bounded after
StepIs settings next at l (Err f) = line_fault settings next at l ≡ Some (ground_of f)

-- The first line of a text and what stands behind it.
pub record FirstLine (text line after : List ℕ) : Type 0 where
  pub turn : lines text ≡ line ∷ lines after
  pub parts : length line + length after ≡ length text
  pub some : 1 ≤ length line

-- What is found of a text: its first line, and what is left behind it; no line where no text is left.
abbrev pub NextLine : (text : List ℕ) → Option (Bor (List ℕ)) → (after : List ℕ) → Type 0
NextLine text None after = (text ≡ []) × (after ≡ [])
NextLine text (Some line) after = FirstLine text line.now after

-- Whether a word of a class's line, its code and its count are right.
abbrev pub is_right : (canonical : Bool) (code n low : ℕ) → Bool
is_right canonical q n low = canonical && (leb low q && (leb 1 n && leb n 4294967295))

-- The line of a class that is long enough, with a code and a count that have a place.
pub record ClassRead (settings : Given) (l : List ℕ) : Type 0 where
  pub long : 10 + settings.k ≤ length l
  pub below : code_in settings l < class_count settings
  pub few : count_in settings.k l ≤ 4294967295

-- A text without a ground, and counts of all classes.
pub record SetsCounts (text : List ℕ) (settings : Given) (counts : List ℕ) : Type 0 where
  pub no_fault : text_fault settings text ≡ None
  pub one_a_class : length counts ≡ class_count settings

-- A load into counts, one a class, to which only the text's grounds may still apply.
abbrev pub LoadsCounts : (settings : Given) (text counts : List ℕ) (answer : Outcome ℕ) (counts' : List ℕ) → Type 0
LoadsCounts settings text counts answer counts' =
    Overwrites (text_fault settings text) (class_count settings) (loaded_counts settings text) counts answer counts'
