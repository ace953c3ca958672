-- Document 01, "Listing and counter program": "The listing has the survey line, one line for each class with a count above 0 (rising code,
-- canonical word, count), and the sum of the counts. Every line ends in LF." The survey line has the number of classes (document 02, K6).
use Rattle.std.specs.Prelude.{ℕ, zero, suc, List, [], ◌∷◌, ◌++◌, length, Option}
use Rattle.laws.specs.Text.{bytes}
use Rattle.settings.specs.Grounds.{Ground, Outcome, ground_at, too_short, Overwrites, ◌or_else◌}
use Rattle.encoding.specs.Calls.{word_bytes}
use Rattle.tally_book.specs.Table.{clear_ground}
use Rattle.tally_book.specs.Demand.{sum, counts}
use Rattle.texts.specs.Decimals.{decimal}
use Rattle.survey.specs.Line.{survey_line}
use Rattle.settings.specs.Given.{Given}

-- (count AC 2) and LF
unfoldable pub count_line : (word : List ℕ) (n : ℕ) → List ℕ
count_line word n = bytes "(count " ++ (word ++ (bytes " " ++ (decimal n ++ bytes ")\n")))

-- "one line for each class with a count above 0"
abbrev pub class_line : (word : List ℕ) (n : ℕ) → List ℕ
class_line word zero = []
class_line word (suc n) = count_line word (suc n)

-- "rising code, canonical word, count": the lines of the classes from code q on, `word` giving each code's word.
unfoldable pub count_lines : (word : ℕ → List ℕ) (q : ℕ) (counts : List ℕ) → List ℕ
count_lines word q [] = []
count_lines word q (n ∷ counts) = class_line (word q) n ++ count_lines word (suc q) counts

-- (total 6) and LF
unfoldable pub total_line : ℕ → List ℕ
total_line n = bytes "(total " ++ (decimal n ++ bytes ")\n")

-- The listing of the counts of all classes, by code.
unfoldable pub listing_of : (settings : Given) (counts : List ℕ) → List ℕ
listing_of settings cs = survey_line settings ++ (count_lines (word_bytes settings) 0 cs ++ total_line (sum cs))

-- The listing of a table: of "the table's places below the number of classes".
abbrev pub listing : (settings : Given) (table : List ℕ) → List ℕ
listing settings table = listing_of settings (counts settings table)

-- The grounds for refusing a listing: 1, 2, 4, 6 and the table's 7, which are those of a clearing; "the table before others", then the 7 of the
-- text's buffer.
unfoldable pub listing_ground : (settings : Given) (table : List ℕ) (room : ℕ) → Option Ground
listing_ground settings table room =
    clear_ground settings (length table) or_else ground_at 7 (too_short room (length (listing settings table)))

-- The contract of the listing: "The library writes the listing whole into a lent byte buffer"; it answers how many bytes it wrote.
abbrev pub Lists : (settings : Given) (table old : List ℕ) (answer : Outcome ℕ) (new : List ℕ) → Type 0
Lists settings table old answer new =
    Overwrites (listing_ground settings table (length old)) (length (listing settings table)) (listing settings table) old answer new
