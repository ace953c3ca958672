-- What functions ask of each other; no claim and no call rests on it.
use Rattle.std.specs.Prelude.{ℕ, zero, suc, ◌+◌, ◌/◌, ◌<◌, ◌≤◌, List, length}
use Rattle.texts.specs.Decimals.{decimal}

-- There are 1 to 16 letters.
pub record SomeLetters (letters : List ℕ) : Type 0 where
  pub some : 0 < length letters
  pub few : length letters ≤ 16

-- The length of a record: >, its number, LF, its letters and an LF for each line of them.
unfoldable pub record_length : (each i : ℕ) → ℕ
record_length each i = 2 + each + (each + 59) / 60 + length (decimal i)

-- The length of so many records, of which the first has the number i.
unfoldable pub records_length : (each i records : ℕ) → ℕ
records_length each i zero = 0
records_length each i (suc records) = record_length each i + records_length each (suc i) records
