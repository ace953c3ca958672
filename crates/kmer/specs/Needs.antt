-- What the function below `kmer_add` and `kmer_withdraw` promises; no claim rests on it.
use Rattle.std.specs.Prelude.{◌≡◌, List, ℕ, length}
use Rattle.settings.specs.Grounds.{Outcome, outcome, unless_refused, overwritten}
use Rattle.settings.specs.Settings.{rank_in}
use Rattle.files.specs.File.{file_numbers}
use Rattle.tally_book.specs.Table.{Call, call_file, table_after}
use Rattle.returned.specs.FileNumbers.{five_numbers}
use Rattle.kmer.specs.FileCalls.{into_ground}
use Rattle.settings.specs.Given.{Given}

-- `CallsInto` before the answer is one number.
pub record AnswersInto (settings : Given) (t : List ℕ) (c : Call) (old : List ℕ) (answer : Outcome ℕ) (t' new : List ℕ) : Type 0 where
  pub answers : answer ≡ outcome (into_ground settings t c (length old)) 5
  pub table_left : t' ≡ unless_refused (into_ground settings t c (length old)) (table_after settings t c) t
  pub answer_left : new ≡ overwritten (into_ground settings t c (length old)) (five_numbers (file_numbers (rank_in settings.letters) settings.k (call_file c))) old
