-- What the functions of the second pass ask of each other and promise each other. No claim and no call of document 01 rests on it.
use Rattle.std.specs.Prelude.{◌≡◌, ℕ, ◌≤◌, List, length, take, drop, Option, None}
use Rattle.settings.specs.Grounds.{Ground, Outcome, ground, outcome, unless_refused}
use Rattle.settings.specs.Settings.{rank_in}
use Rattle.fasta.specs.declared.Numbers.{Numbers}
use Rattle.files.specs.File.{File, start_of, file_fault, file_numbers}
use Rattle.kernels.specs.declared.Coder.{Coder}
use Rattle.tally_book.specs.Table.{changes, full, lacks, Call, call_file, last_ground, table_after}
use Rattle.counts.specs.declared.Way.{Way}
use Rattle.counts.specs.declared.Way.TheVariants.{In, Out}
use Rattle.counts.specs.Needs.{by_way}
use Rattle.batches.specs.Needs.{codes_of_file}
use Rattle.settings.specs.Given.{Given}

-- The codes of all windows of a file of its kind, by a coder.
abbrev pub codes_of : Coder → File → List ℕ
codes_of c file = codes_of_file c file.bytes (start_of file.kind)

-- The last ground of a call, read from the counts alone, the file's windows having these places.
abbrev pub last_of : Way → (places counts : List ℕ) → Option Ground
last_of In places counts = ground 12 (full (length places) counts)
last_of Out places counts = ground 18 (lacks counts places)

-- The counts after a call with a file whose windows have these places, unless its last ground applies.
pub record ChangedUnlessRefused (way : Way) (n : Numbers) (places counts : List ℕ) (answer : Outcome Numbers) (counts' : List ℕ) : Type 0 where
  pub answers : answer ≡ outcome (last_of way places counts) n
  pub leaves : counts' ≡ unless_refused (last_of way places counts) (changes (by_way way) counts places) counts

-- The same in a table, whose first places, one a class, are the counts. No later place changes.
pub record TableUnlessRefused (way : Way) (n : Numbers) (places : List ℕ) (classes : ℕ) (t : List ℕ) (answer : Outcome Numbers) (t' : List ℕ) : Type 0 where
  pub counts : ChangedUnlessRefused way n places (take classes t) answer (take classes t')
  pub later : drop classes t' ≡ drop classes t

-- A call to which only its last ground may still apply.
pub record CalledUnlessRefused (settings : Given) (t : List ℕ) (c : Call) (answer : Outcome Numbers) (t' : List ℕ) : Type 0 where
  pub answers : answer ≡ outcome (last_ground settings t c) (file_numbers (rank_in settings.letters) settings.k (call_file c))
  pub leaves : t' ≡ unless_refused (last_ground settings t c) (table_after settings t c) t

-- The scan found no fault, and these numbers.
pub record CleanFile (letters : List ℕ) (k : ℕ) (file : File) (n : Numbers) : Type 0 where
  pub no_fault : file_fault file ≡ None
  pub numbers : n ≡ file_numbers (rank_in letters) k file
  pub short : length file.bytes ≤ 16777216
