-- Document 02, K8: what the theorems say of a test load as a sequence file.
use Rattle.std.specs.Prelude.{ℕ, zero, suc, ◌*◌, ◌-◌, min, List, [], ◌∷◌}
use Rattle.fasta.specs.declared.Numbers.{Numbers}
use Rattle.files.specs.declared.Kind.TheVariants.{Fasta}
use Rattle.files.specs.File.{File, file_of}
use Rattle.testload.specs.TestLoad.{drawn, state_after, test_load}

-- The test load as a caller hands it to a scan or an add.
abbrev pub load_file : (letters : List ℕ) (start records each : ℕ) → File
load_file letters start records each = file_of Fasta (test_load letters start records each)

-- "a file of records times letters, none foreign": its five numbers. Each record is one run, with the lesser of its length and k - 1 as edge letters.
abbrev pub load_numbers : (k records each : ℕ) → Numbers
load_numbers k records each =
    record {
      records = records;
      letters = records * each;
      foreign = 0;
      edge = records * min each (k - 1);
      windows = records * (each - (k - 1));
    }

-- The letters of each record, as ranks: the file's runs, but for the empty one before its first header.
unfoldable pub drawn_records : (s each records x : ℕ) → List (List ℕ)
drawn_records s each zero x = []
drawn_records s each (suc records) x = drawn s each x ∷ drawn_records s each records (state_after each x)
