-- Document 02, K7, "Load a listing": "A listing is read into a table, under the settings of the call, and its counts replace the old ones, 0 for a class not
-- listed."
use Rattle.std.specs.Prelude.{ℕ, suc, ◌+◌, Bool, ◌&&◌, cond, List, [], ◌∷◌, length, drop, get_or, set, replicate, leb, Option, None, Some}
use Rattle.settings.specs.Grounds.{Ground, Outcome, ground_at, ◌or_else◌, Overwrites}
use Rattle.settings.specs.Settings.{mirror_of}
use Rattle.settings.specs.Limits.{highest_count}
use Rattle.encoding.specs.Words.{canonical}
use Rattle.encoding.specs.Calls.{ranks_of}
use Rattle.lines.specs.Lines.{lines}
use Rattle.fastq.specs.Fastq.{unless_at}
use Rattle.survey.specs.Grammar.{spelt}
use Rattle.survey.specs.Line.{survey_line}
use Rattle.tally_book.specs.Table.{class_count, place_of, clear_ground}
use Rattle.tally_book.specs.Book.{same_word, Book}
use Rattle.listing.specs.Listing.{total_line}
pub use Rattle.loading.specs.declared.Next.{Next}
pub use Rattle.loading.specs.declared.Next.TheVariants.{Survey, CountOrTotal, Nothing}
use Rattle.loading.specs.Shapes.{same_text, word_in, digits_in, is_count_line, is_total_line, is_survey_line}
use Rattle.settings.specs.Given.{Given}

-- ---- what the line of a class says

-- The ranks of its word.
abbrev pub ranks_in : (letters : List ℕ) (k : ℕ) → List ℕ → List ℕ
ranks_in letters k l = ranks_of letters (word_in k l)

-- Whether it is canonical.
abbrev pub canonical_in : (settings : Given) → List ℕ → Bool
canonical_in settings l = same_word (canonical (length settings.letters) (mirror_of settings.mirror) (ranks_in settings.letters settings.k l)) (ranks_in settings.letters settings.k l)

-- The code of its class.
abbrev pub code_in : (settings : Given) → List ℕ → ℕ
code_in settings l = place_of settings (ranks_in settings.letters settings.k l)

-- Its count.
abbrev pub count_in : (k : ℕ) → List ℕ → ℕ
count_in k l = spelt 0 (digits_in k l)

-- 22: "when a word is not canonical, its code does not rise, a count is not 1 to 4,294,967,295": here, that none of these is so. `low` is one above the code of
-- the last line of a class, 0 where there is none.
unfoldable pub good_count : (settings : Given) (low : ℕ) → List ℕ → Bool
good_count settings low l =
    canonical_in settings l && (leb low (code_in settings l) && (leb 1 (count_in settings.k l) && leb (count_in settings.k l) highest_count))

-- ---- the lines one after the other

-- What belongs after a line.
unfoldable pub next_after : (settings : Given) → Next → List ℕ → Next
next_after settings Survey l = CountOrTotal 0 0
next_after settings (CountOrTotal low sum) l = cond (is_total_line l) Nothing (CountOrTotal (suc (code_in settings l)) (sum + count_in settings.k l))
next_after settings Nothing l = Nothing

-- ---- grounds

-- The ground of the line l at an offset, "in that order within a line":
-- "20 when a line has none of the listing's shapes, stands where another kind or none belongs";
-- "21 when the survey line differs from the settings or their number of classes": from the survey line that is printed under them;
-- "22 when a word is not canonical, its code does not rise, a count is not 1 to 4,294,967,295, or the total is not the sum".
unfoldable pub line_fault : (settings : Given) → Next → (at : ℕ) → List ℕ → Option Ground
line_fault settings Survey at l =
    ground_at 20 (unless_at (is_survey_line l) at)
    or_else ground_at 21 (unless_at (same_text l (survey_line settings)) at)
line_fault settings (CountOrTotal low sum) at l =
    cond (is_total_line l)
    (ground_at 22 (unless_at (same_text l (total_line sum)) at))
    (ground_at 20 (unless_at (is_count_line settings.letters settings.k l) at)
    or_else ground_at 22 (unless_at (good_count settings low l) at))
line_fault settings Nothing at l = Some (20, at)

-- 20 when a line "is missing": "for a missing line the text's length".
abbrev pub missing : Next → (at : ℕ) → Option Ground
missing Survey at = Some (20, at)
missing (CountOrTotal low sum) at = Some (20, at)
missing Nothing at = None

-- "the first line at fault wins .. and P is the line's offset": of lines from an offset on.
unfoldable pub load_fault : (settings : Given) → Next → (at : ℕ) → List (List ℕ) → Option Ground
load_fault settings next at [] = missing next at
load_fault settings next at (l ∷ ls) =
    line_fault settings next at l or_else load_fault settings (next_after settings next l) (at + length l) ls

-- The first ground of a text: "Lines end in LF", so that a line is what goes up to an LF or to the text's end; one without LF has none of the shapes.
abbrev pub text_fault : (settings : Given) (text : List ℕ) → Option Ground
text_fault settings text = load_fault settings Survey 0 (lines text)

-- The grounds for refusing a load: those of a clearing, 1, 2, 4, 6 and 7, and "after 7" those of the text.
unfoldable pub load_ground : (settings : Given) (room : ℕ) (text : List ℕ) → Option Ground
load_ground settings room text = clear_ground settings room or_else text_fault settings text

-- ---- counts

-- Some counts after the lines of classes up to the total: each sets the count of its class.
unfoldable pub loaded_from : (settings : Given) → (counts : List ℕ) → List (List ℕ) → List ℕ
loaded_from settings cs [] = cs
loaded_from settings cs (l ∷ ls) = cond (is_total_line l) cs (loaded_from settings (set cs (code_in settings l) (count_in settings.k l)) ls)

-- "its counts replace the old ones, 0 for a class not listed": of the lines behind the survey line.
unfoldable pub loaded_counts : (settings : Given) (text : List ℕ) → List ℕ
loaded_counts settings text = loaded_from settings (replicate (class_count settings) 0) (drop 1 (lines text))

-- The contract of a load: it answers how many places it set, which is one a class, and changes no later one; a refused one changes none.
abbrev pub Loads : (settings : Given) (text t : List ℕ) (answer : Outcome ℕ) (t' : List ℕ) → Type 0
Loads settings text t answer t' =
    Overwrites (load_ground settings (length t) text) (class_count settings) (loaded_counts settings text) t answer t'

-- "After a load, every list of adds and withdrawals starts from the loaded counts": the tally book that starts from them.
abbrev pub loaded_book : (settings : Given) (text : List ℕ) → Book
loaded_book settings text w = get_or (loaded_counts settings text) (place_of settings w) 0
