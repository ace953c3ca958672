-- What functions ask of each other. No claim and no call of document 01 rests on it; `put_listing`, which the program uses, and the bound of a listing's length
-- do.
use Rattle.std.specs.Prelude.{◌≡◌, ℕ, zero, suc, ◌+◌, ◌*◌, ◌≤◌, List, [], ◌∷◌, length, None}
use Rattle.settings.specs.Grounds.{Outcome, ground_at, too_short, Overwrites}
use Rattle.settings.specs.Settings.{settings_ground}
use Rattle.tally_book.specs.Table.{class_count}
use Rattle.texts.specs.Decimals.{decimal}
use Rattle.settings.specs.Given.{Given}

-- The counts of all classes under good settings, as many as a table may have.
pub record AllCounts (settings : Given) (counts : List ℕ) : Type 0 where
  pub good : settings_ground settings ≡ None
  pub one_a_class : length counts ≡ class_count settings
  pub few : length counts ≤ 16777216

-- A text is written whole to which only the 7 of its buffer may still apply.
abbrev pub ListsCounts : (text old : List ℕ) (answer : Outcome ℕ) (new : List ℕ) → Type 0
ListsCounts text old answer new = Overwrites (ground_at 7 (too_short (length old) (length text))) (length text) text old answer new

-- The length of a class's line, its word having k letters: none without a count.
abbrev pub line_length : (k n : ℕ) → ℕ
line_length k zero = 0
line_length k (suc n) = 10 + k + length (decimal (suc n))

-- The length of the lines of classes with these counts, each word having k letters.
unfoldable pub lines_length : (k : ℕ) (counts : List ℕ) → ℕ
lines_length k [] = 0
lines_length k (n ∷ counts) = line_length k n + lines_length k counts

-- A listing of n classes, up to 16,777,216, each count a 32-bit number, has no more bytes: at most 83 for the survey line, 82 for each class and 28 for the
-- total.
abbrev pub longest : (n : ℕ) → ℕ
longest n = 111 + 82 * n
