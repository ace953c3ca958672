-- Document 01, "Sequence file (FASTA)" and "Grounds for refusing", and document 02, K1 and K4: what clearing a table, and adding and withdrawing a file
-- of either kind, through the C calls return and leave. The file's five numbers go into a lent list of 64-bit numbers.
use Rattle.std.specs.Prelude.{◌≡◌, List, ℕ, length, Option}
use Rattle.settings.specs.Grounds.{Ground, Outcome, ground_at, too_short, outcome, unless_refused, overwritten, ◌or_else◌}
use Rattle.settings.specs.Settings.{rank_in}
use Rattle.files.specs.File.{File, file_fault, file_numbers}
use Rattle.tally_book.specs.Table.{Clears, ready_ground, Call, add, withdraw, call_file, last_ground, table_after}
use Rattle.returned.specs.Returned.{returned_with_place, Returns}
use Rattle.returned.specs.FileNumbers.{five_numbers}
use Rattle.settings.specs.Given.{Given}

-- The contract of `kmer_clear`.
abbrev pub ClearsInto : (settings : Given) (t : List ℕ) (r : ℕ) (t' : List ℕ) → Type 0
ClearsInto settings t r t' = Returns returned_with_place (λ (answer : Outcome ℕ). Clears settings t answer t') r

-- "the table before others": the 7 of the list for the answer comes after that of the table, then the grounds of the file's kind, then 12 for an add and 18
-- for a withdrawal.
unfoldable pub into_ground : (settings : Given) (t : List ℕ) (c : Call) (room : ℕ) → Option Ground
into_ground settings t c room =
    ready_ground settings (length t) (call_file c).bytes
    or_else ground_at 7 (too_short room 5)
    or_else file_fault (call_file c)
    or_else last_ground settings t c

-- What `kmer_add` and `kmer_withdraw` have in common: what is returned, and the table and the answer list that are left; a refused call changes neither.
pub record CallsInto (settings : Given) (t : List ℕ) (c : Call) (old : List ℕ) (r : ℕ) (t' new : List ℕ) : Type 0 where
  pub returns : r ≡ returned_with_place (outcome (into_ground settings t c (length old)) 5)
  pub table_left : t' ≡ unless_refused (into_ground settings t c (length old)) (table_after settings t c) t
  pub answer_left : new ≡ overwritten (into_ground settings t c (length old)) (five_numbers (file_numbers (rank_in settings.letters) settings.k (call_file c))) old

-- The contract of `kmer_add`.
abbrev pub AddsInto : (settings : Given) (t : List ℕ) (file : File) (old : List ℕ) (r : ℕ) (t' new : List ℕ) → Type 0
AddsInto settings t file old r t' new = CallsInto settings t (add file) old r t' new

-- The contract of `kmer_withdraw`.
abbrev pub WithdrawsInto : (settings : Given) (t : List ℕ) (file : File) (old : List ℕ) (r : ℕ) (t' new : List ℕ) → Type 0
WithdrawsInto settings t file old r t' new = CallsInto settings t (withdraw file) old r t' new
