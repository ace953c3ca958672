-- Document 01, "Sequence file (FASTA)", and document 02, K1: a sequence file of either kind, as a call is handed it: what each of its bytes is and its first
-- fault. Only these two depend on the kind; windows and numbers are those of the items.
use Rattle.std.specs.Prelude.{ℕ, false, List, Option}
use Rattle.lines.specs.Lines.{lines}
use Rattle.settings.specs.Grounds.{Ground}
use Rattle.fasta.specs.declared.Item.{Item}
use Rattle.fasta.specs.declared.Mode.{Mode}
use Rattle.fasta.specs.declared.Mode.TheVariants.{Start, FastqStart}
use Rattle.fasta.specs.declared.Numbers.{Numbers}
use Rattle.fasta.specs.Items.{windows_in, numbers_in}
use Rattle.fasta.specs.File.{items_from, fault_from}
use Rattle.fastq.specs.Fastq.{fastq_fault}
use Rattle.files.specs.declared.SequenceFile.{SequenceFile}
use Rattle.files.specs.declared.Kind.{Kind}
use Rattle.files.specs.declared.Kind.TheVariants.{Fasta, Fastq}

-- "A caller names the kind of file".
pub record File : Type 0 where
  pub kind : Kind
  pub bytes : List ℕ

abbrev pub file_of : Kind → List ℕ → File
file_of kind bytes = record { kind = kind; bytes = bytes }

-- What a function is handed as a file.
abbrev pub as_file : SequenceFile → File
as_file file = file_of file.kind file.bytes.now

-- Where a file's first byte stands: at the start of a line, or of a record of four lines.
abbrev pub start_of : Kind → Mode
start_of Fasta = Start
start_of Fastq = FastqStart

-- What each byte of a file is, one item a byte.
abbrev pub items : File → List Item
items file = items_from (start_of file.kind) file.bytes

-- 10 and 11 of a FASTA file; 15, 10, 16 and 17 of a FASTQ file: "these stand where 10 and 11 stood".
abbrev pub fault_of : Kind → List ℕ → Option Ground
fault_of Fasta bytes = fault_from false 0 (items_from Start bytes)
fault_of Fastq bytes = fastq_fault 0 (lines bytes)

abbrev pub file_fault : File → Option Ground
file_fault file = fault_of file.kind file.bytes

-- A file's windows, in file order, as words of ranks.
abbrev pub file_windows : (ℕ → Option ℕ) → ℕ → File → List (List ℕ)
file_windows rank k file = windows_in rank k (items file)

abbrev pub file_numbers : (ℕ → Option ℕ) → ℕ → File → Numbers
file_numbers rank k file = numbers_in rank k (items file)
