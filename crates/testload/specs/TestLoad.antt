-- Document 02, K8: the test load, a sequence file that is made from a start, a number of records and a number of letters in each; and the call that writes it.
use Rattle.std.specs.Prelude.{ℕ, zero, suc, ◌+◌, ◌*◌, ◌/◌, ◌%◌, ◌^◌, cond, List, [], ◌∷◌, ◌++◌, length, eqb, Option}
use Rattle.laws.specs.Text.{bytes}
use Rattle.settings.specs.Grounds.{Ground, Outcome, ground, ground_at, too_short, Overwrites, ◌or_else◌}
use Rattle.settings.specs.Settings.{settings_ground}
use Rattle.encoding.specs.Calls.{in_capitals}
use Rattle.texts.specs.Decimals.{decimal}
use Rattle.settings.specs.Limits.{too_long}
use Rattle.settings.specs.Given.{Given}

-- "Each letter first steps the state: times 6364136223846793005 plus 1442695040888963407, modulo 2^64."
unfoldable pub stepped : ℕ → ℕ
stepped x = (x * 6364136223846793005 + 1442695040888963407) % 2 ^ 64

-- "The letter's rank is the state's top 32 bits times s, divided by 2^32 and rounded down."
unfoldable pub drawn_rank : (s x : ℕ) → ℕ
drawn_rank s x = x / 2 ^ 32 * s / 2 ^ 32

-- The ranks of n letters, from a state on, each by the state that it "first steps".
unfoldable pub drawn : (s n x : ℕ) → List ℕ
drawn s zero x = []
drawn s (suc n) x = drawn_rank s (stepped x) ∷ drawn s n (stepped x)

-- The state after n letters, with which the next record goes on.
unfoldable pub state_after : (n x : ℕ) → ℕ
state_after zero x = x
state_after (suc n) x = state_after n (stepped x)

-- "then lines of 60 letters, the last perhaps shorter, all ending in LF": some letters and the ends of their lines, where j letters stand before them in their line.
unfoldable pub in_lines : (j : ℕ) (letters : List ℕ) → List ℕ
in_lines j [] = cond (eqb j 0) [] (bytes "\n")
in_lines j (b ∷ bs) = b ∷ cond (eqb (suc j) 60) (bytes "\n" ++ in_lines 0 bs) (in_lines (suc j) bs)

-- A record's letters in capitals; s is the number of the settings' letters.
unfoldable pub drawn_letters : (letters : List ℕ) (n x : ℕ) → List ℕ
drawn_letters letters n x = in_capitals letters (drawn (length letters) n x)

-- "header > with the record's number from 1, then lines of 60 letters"; "A record of 0 letters is its header only."
unfoldable pub record_text : (letters : List ℕ) (each i x : ℕ) → List ℕ
record_text letters each i x = (bytes ">" ++ decimal i) ++ (bytes "\n" ++ in_lines 0 (drawn_letters letters each x))

-- So many records, of which the first has the number i, from a state on.
unfoldable pub records_from : (letters : List ℕ) (each i records x : ℕ) → List ℕ
records_from letters each i zero x = []
records_from letters each i (suc records) x = record_text letters each i x ++ records_from letters each (suc i) records (state_after each x)

-- "From a 64-bit start, a number of records and a number of letters in each, write a sequence file by the settings".
abbrev pub test_load : (letters : List ℕ) (start records each : ℕ) → List ℕ
test_load letters start records each = records_from letters each 1 records start

-- The grounds of the settings; "a larger one gives 6 and a short buffer 7".
unfoldable pub generate_ground : (settings : Given) (text : List ℕ) (room : ℕ) → Option Ground
generate_ground settings text room = settings_ground settings or_else ground 6 (too_long text) or_else ground_at 7 (too_short room (length text))

-- The contract of the call that writes a test load, this text, to the start of a lent buffer; it answers its length.
abbrev pub Generates : (settings : Given) (text old : List ℕ) (answer : Outcome ℕ) (new : List ℕ) → Type 0
Generates settings text old answer new = Overwrites (generate_ground settings text (length old)) (length text) text old answer new
