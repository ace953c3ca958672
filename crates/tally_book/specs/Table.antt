-- Document 01, "Table" and "Grounds for refusing", and document 02, K4: what clearing, adding and withdrawing answer, and the table that they leave. A file
-- is one with its kind (document 02, K1).
use Rattle.std.specs.Prelude.{◌≡◌, Bool, false, cond, ◌||◌, List, [], ◌∷◌, map, ℕ, zero, suc, ◌+◌, ◌-◌, length, take, get_or, set, replicate, eqb, ltb, Option}
use Rattle.settings.specs.Grounds.{Ground, Outcome, ground, ground_at, too_short, outcome, unless_refused, Overwrites, ◌or_else◌}
use Rattle.settings.specs.Settings.{rank_in, mirror_of, classes, settings_ground}
use Rattle.encoding.specs.Codes.{code}
use Rattle.fasta.specs.declared.Numbers.{Numbers}
use Rattle.files.specs.File.{File, file_fault, file_windows, file_numbers}
use Rattle.settings.specs.Limits.{too_long, most_classes, highest_count}
use Rattle.settings.specs.Given.{Given}

-- ---- what the settings say of a table

-- How many places the classes take: "the first places, one a class".
abbrev pub class_count : (settings : Given) → ℕ
class_count settings = classes (length settings.letters) (mirror_of settings.mirror) settings.k

-- "the class with code q counts at place q": the place of a word's class. "A class's place is its code, also under settings with too many
-- classes for a table."
abbrev pub place_of : (settings : Given) (w : List ℕ) → ℕ
place_of settings w = code (length settings.letters) (mirror_of settings.mirror) settings.k w

-- A file's words, which are its windows: the one name that the table, the tally book and demand 3 have for them.
unfoldable pub windows_of_file : (letters : List ℕ) (k : ℕ) (file : File) → List (List ℕ)
windows_of_file letters k file = file_windows (rank_in letters) k file

-- ---- counts

-- Place q set to what f makes of its count.
unfoldable pub change : (f : ℕ → ℕ) → List ℕ → ℕ → List ℕ
change f t q = set t q (f (get_or t q 0))

-- And so at each of some places, which may repeat.
unfoldable pub changes : (f : ℕ → ℕ) → List ℕ → List ℕ → List ℕ
changes f t [] = t
changes f t (q ∷ qs) = changes f (change f t q) qs

-- One more.
unfoldable pub one_more : ℕ → ℕ
one_more n = n + 1

-- One less. Numbers end at 0, but ground 18 refuses a withdrawal that would take 1 from 0.
unfoldable pub one_less : ℕ → ℕ
one_less n = n - 1

-- How often q is named among some places.
unfoldable pub occurrences : ℕ → List ℕ → ℕ
occurrences q [] = 0
occurrences q (p ∷ ps) = cond (eqb q p) 1 0 + occurrences q ps

-- The places of a file's windows.
abbrev pub places : (settings : Given) (file : File) → List ℕ
places settings file = map (place_of settings) (windows_of_file settings.letters settings.k file)

-- ---- grounds

-- 12: "some class's place holds more than 4,294,967,295 less the file's windows of all classes together", the counts being those of all
-- classes and n the number of windows, which is at most 16,777,216 where this is asked, since ground 6 comes first.
unfoldable pub full : ℕ → List ℕ → Bool
full n [] = false
full n (c ∷ cs) = ltb (highest_count - n) c || full n cs

-- Whether some number below n passes a test.
unfoldable pub some_below : (n : ℕ) → (ℕ → Bool) → Bool
some_below zero test = false
some_below (suc n) test = test n || some_below n test

-- 18: "some class has a smaller count than the file has windows of it", the counts being those of all classes and the places those of the file's windows.
abbrev pub lacks : (counts places : List ℕ) → Bool
lacks counts places = some_below (length counts) (λ (q : ℕ). ltb (get_or counts q 0) (occurrences q places))

-- 6: "in table calls, classes above 16,777,216"
unfoldable pub too_many : (classes : ℕ) → Bool
too_many n = ltb most_classes n

-- The grounds for refusing an add or a withdrawal before its file is read, whatever its kind: 1, 2 and 4; 6, of the file's bytes or of the classes; 7, the
-- table's room being shorter than the classes.
unfoldable pub ready_ground : (settings : Given) (room : ℕ) (bytes : List ℕ) → Option Ground
ready_ground settings room bytes =
    settings_ground settings
    or_else ground 6 (too_long bytes || too_many (class_count settings))
    or_else ground_at 7 (too_short room (class_count settings))

-- The grounds for refusing an add or a withdrawal, in their order: those; 10 or 11, where for FASTQ 15, 10, 16 and 17 stand; and a last one, 12 for an add
-- and 18 for a withdrawal ("checked after 11, in place of 12"), which the table and the book each read from their own counts.
unfoldable pub call_ground : (settings : Given) (room : ℕ) (file : File) (last : Option Ground) → Option Ground
call_ground settings room file last = ready_ground settings room file.bytes or_else file_fault file or_else last

-- The grounds for refusing a clearing: 1, 2, 4, 6 and 7.
unfoldable pub clear_ground : (settings : Given) (room : ℕ) → Option Ground
clear_ground settings room =
    settings_ground settings
    or_else ground 6 (too_many (class_count settings))
    or_else ground_at 7 (too_short room (class_count settings))

-- ---- the calls

-- A call on a table with a file: an add or a withdrawal.
pub data Call : Type 0 where
  add : (file : File) → Call
  withdraw : (file : File) → Call

-- Its file.
abbrev pub call_file : Call → File
call_file (add file) = file
call_file (withdraw file) = file

-- Ground 12 as an add reads it: from the table's places, those of all classes.
abbrev pub table_full : (settings : Given) (t : List ℕ) (file : File) → Bool
table_full settings t file = full (length (windows_of_file settings.letters settings.k file)) (take (class_count settings) t)

-- Ground 18 as a withdrawal reads it: from the same places.
abbrev pub table_lacks : (settings : Given) (t : List ℕ) (file : File) → Bool
table_lacks settings t file = lacks (take (class_count settings) t) (places settings file)

-- The last ground of a call, read from the table's places.
abbrev pub last_ground : (settings : Given) (t : List ℕ) → Call → Option Ground
last_ground settings t (add file) = ground 12 (table_full settings t file)
last_ground settings t (withdraw file) = ground 18 (table_lacks settings t file)

-- The grounds of a call, the last one read from the table's places.
abbrev pub table_ground : (settings : Given) (t : List ℕ) → Call → Option Ground
table_ground settings t c = call_ground settings (length t) (call_file c) (last_ground settings t c)

-- What a call makes of a count for each window of its class: "Adding a file adds 1 for each window", and "Withdrawing a file takes 1 from its class for each
-- window".
abbrev pub per_window : Call → ℕ → ℕ
per_window (add file) = one_more
per_window (withdraw file) = one_less

-- The table after a call that is not refused.
abbrev pub table_after : (settings : Given) (t : List ℕ) → Call → List ℕ
table_after settings t c = changes (per_window c) t (places settings (call_file c))

-- The contract of a call on the table t: what is answered, and the table t' that is left. "Each table call on a file answers with its records (header lines),
-- letters (foreign ones too), foreign, and edge and windows over all runs", or with the first ground that applies. That "Later places never change" follows,
-- since the places of words are below the number of classes.
pub record Called (settings : Given) (t : List ℕ) (c : Call) (answer : Outcome Numbers) (t' : List ℕ) : Type 0 where
  pub answers : answer ≡ outcome (table_ground settings t c) (file_numbers (rank_in settings.letters) settings.k (call_file c))
  pub leaves : t' ≡ unless_refused (table_ground settings t c) (table_after settings t c) t

-- The contract of adding a file to the table t.
abbrev pub Added : (settings : Given) (t : List ℕ) (file : File) (answer : Outcome Numbers) (t' : List ℕ) → Type 0
Added settings t file answer t' = Called settings t (add file) answer t'

-- The contract of withdrawing a file from the table t.
abbrev pub Withdrawn : (settings : Given) (t : List ℕ) (file : File) (answer : Outcome Numbers) (t' : List ℕ) → Type 0
Withdrawn settings t file answer t' = Called settings t (withdraw file) answer t'

-- The contract of clearing the table t: "Clearing sets the first places, one a class, to 0", and it "answers how many places it set".
abbrev pub Clears : (settings : Given) (t : List ℕ) (answer : Outcome ℕ) (t' : List ℕ) → Type 0
Clears settings t answer t' =
    Overwrites (clear_ground settings (length t)) (class_count settings) (replicate (class_count settings) 0) t answer t'
