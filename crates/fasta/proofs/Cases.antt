-- The definitions, computed on files of a few bytes: the sentences of document 01's section "Sequence file (FASTA)", save those on the record reader (the
-- crate `records`) and the order of the grounds (the crate `files`); and the items of FASTQ. By computation.
use Rattle.std.proofs.Common.{◌≡◌, refl, false, ℕ, Option, None, Some, List, [], ◌∷◌}
use Rattle.laws.specs.Text.{bytes}
use Rattle.settings.specs.Grounds.{Ground}
use Rattle.settings.specs.Settings.{is_in, capital_of, reads_u_as_t, read_as, place_from, rank_in}
use Rattle.fasta.specs.declared.Mode.TheVariants.{Start, FastqStart}
use Rattle.fasta.specs.declared.Item.{Item}
use Rattle.fasta.specs.declared.Item.TheVariants.{Opens, Skip, Stray, Letter}
use Rattle.fasta.specs.declared.Numbers.{Numbers}
use Rattle.fasta.specs.Items.{records_in, letters_in, one_if_foreign, foreign_in, marks, on_first, runs, edge, windows, edges_of, windows_of, windows_in, numbers_in}
use Rattle.fasta.specs.File.{is_letter, lf_next, line_item, item, next, items_from, fault_from}

-- The items and the first fault of a FASTA file.
abbrev items : List ℕ → List Item
items file = items_from Start file

abbrev file_fault : List ℕ → Option Ground
file_fault file = fault_from false 0 (items file)

-- Files are read with the letters ACGT and k 2. A case that unfolds one of these computes with all that its `unfolding` line names.
unfoldable windows_of_file : List ℕ → List (List ℕ)
unfolding is_letter lf_next line_item item next items_from is_in capital_of reads_u_as_t read_as place_from marks on_first runs windows windows_of
windows_of_file file = windows_in (rank_in (bytes "ACGT")) 2 (items file)

unfoldable numbers_of_file : List ℕ → Numbers
unfolding windows_of_file records_in letters_in one_if_foreign foreign_in edge edges_of
numbers_of_file file = numbers_in (rank_in (bytes "ACGT")) 2 (items file)

abbrev five : ℕ → ℕ → ℕ → ℕ → ℕ → Numbers
five r l f e w = record { records = r; letters = l; foreign = f; edge = e; windows = w }

-- ---- bytes

-- "Lines end in LF or CR LF; the last may have no end."
line_ends : items (bytes ">a\r\nA\nC") ≡ Opens ∷ Skip ∷ Skip ∷ Skip ∷ Letter 65 ∷ Skip ∷ Letter 67 ∷ []
unfolding is_letter lf_next line_item item next items_from
line_ends = refl

-- "A line beginning with > opens a record and its other bytes are free": letters, strays, a > and a CR among them.
free_header : items (bytes ">A>\r*\nC") ≡ Opens ∷ Skip ∷ Skip ∷ Skip ∷ Skip ∷ Skip ∷ Letter 67 ∷ []
unfolding is_letter lf_next line_item item next items_from
free_header = refl

-- "An empty line is skipped": ended by LF or CR LF, also before the first header.
empty_lines : items (bytes "\n\r\n>\n\n\r\nA") ≡ Skip ∷ Skip ∷ Skip ∷ Opens ∷ Skip ∷ Skip ∷ Skip ∷ Skip ∷ Letter 65 ∷ []
unfolding is_letter lf_next line_item item next items_from
empty_lines = refl

-- "A to Z and a to z are letters, all others stray": the bytes beside both ranges, a digit, a space.
ranges : items (bytes ">\n@AZ[`az{0 ")
    ≡ Opens ∷ Skip ∷ Stray ∷ Letter 65 ∷ Letter 90 ∷ Stray ∷ Stray ∷ Letter 97 ∷ Letter 122 ∷ Stray ∷ Stray ∷ Stray ∷ []
unfolding is_letter lf_next line_item item next items_from
ranges = refl

-- "a > after the line's start": stray.
late_mark : items (bytes ">\nA>C") ≡ Opens ∷ Skip ∷ Letter 65 ∷ Stray ∷ Letter 67 ∷ []
unfolding is_letter lf_next line_item item next items_from
late_mark = refl

-- "a CR without LF included": before another byte, before a CR LF, at a line's start, at the file's end.
lone_cr : items (bytes ">\nA\rC\r\r\n\rA\r")
    ≡ Opens ∷ Skip ∷ Letter 65 ∷ Stray ∷ Letter 67 ∷ Stray ∷ Skip ∷ Skip ∷ Stray ∷ Letter 65 ∷ Stray ∷ []
unfolding is_letter lf_next line_item item next items_from
lone_cr = refl

-- Document 02, K1: the lines of a FASTQ record follow each other, and the next record opens behind them. "Only the sequence counts": settings letters in
-- header, + and quality lines are none of the file's.
fastq_items : items_from FastqStart (bytes "@A\r\nAC\r\n+C\nGT\n@")
    ≡ Opens ∷ Skip ∷ Skip ∷ Skip ∷ Letter 65 ∷ Letter 67 ∷ Skip ∷ Skip ∷ Skip ∷ Skip ∷ Skip ∷ Skip ∷ Skip ∷ Skip ∷ Opens ∷ []
unfolding is_letter lf_next line_item item next items_from
fastq_items = refl

-- ---- faults

-- Grounds 10 and 11 with the offset of the byte.
stray : file_fault (bytes ">a\nAC*T\n") ≡ Some (10, 5)
unfolding is_letter lf_next line_item item next items_from fault_from
stray = refl

early : file_fault (bytes "\r\nACGT\n>a\n") ≡ Some (11, 2)
unfolding is_letter lf_next line_item item next items_from fault_from
early = refl

-- "of 10 and 11, the earlier byte wins"
stray_first : file_fault (bytes "*A\n>a\n") ≡ Some (10, 0)
unfolding is_letter lf_next line_item item next items_from fault_from
stray_first = refl

early_first : file_fault (bytes "A*\n>a\n") ≡ Some (11, 0)
unfolding is_letter lf_next line_item item next items_from fault_from
early_first = refl

-- Of several stray bytes the first; a CR at the file's end is one.
first_stray : file_fault (bytes ">\nA-C-\n") ≡ Some (10, 3)
unfolding is_letter lf_next line_item item next items_from fault_from
first_stray = refl

last_cr : file_fault (bytes ">\nA\r") ≡ Some (10, 3)
unfolding is_letter lf_next line_item item next items_from fault_from
last_cr = refl

-- No fault: what a header holds, foreign and small letters, a header that the file's end cuts off, a CR at the end of such a header.
no_fault : file_fault (bytes ">*\n\nAxN\n>b 1\r\n>-\r") ≡ None
unfolding is_letter lf_next line_item item next items_from fault_from
no_fault = refl

-- ---- windows and numbers

-- "Windows run over line ends": AG, GC and CT, and as well with CR LF, an empty line and small letters.
over_lines : windows_of_file (bytes ">\nAG\r\n\ncT\n") ≡ (0 ∷ 2 ∷ []) ∷ (2 ∷ 1 ∷ []) ∷ (1 ∷ 3 ∷ []) ∷ []
unfolding windows_of_file
over_lines = refl

-- "never over a record's end or a foreign letter"
record_end : windows_of_file (bytes ">a\nAC\n>b\nGT\n") ≡ (0 ∷ 1 ∷ []) ∷ (2 ∷ 3 ∷ []) ∷ []
unfolding windows_of_file
record_end = refl

foreign_letter : windows_of_file (bytes ">a\nACNGT\n") ≡ (0 ∷ 1 ∷ []) ∷ (2 ∷ 3 ∷ []) ∷ []
unfolding windows_of_file
foreign_letter = refl

-- Document 01's own file: records 2, letters 9, foreign 1, edge 2, windows 6.
own_file : numbers_of_file (bytes ">a\nACGTN\n>b\nAG\nCT\n") ≡ five 2 9 1 2 6
unfolding numbers_of_file
own_file = refl

-- Records without letters; "the lesser of its length and k − 1" for a run of one letter.
bare_records : numbers_of_file (bytes ">a\n>b\n\n>c\nA\n>") ≡ five 4 1 0 1 0
unfolding numbers_of_file
bare_records = refl

-- Foreign letters side by side, small ones too, at both ends of a record.
all_foreign : numbers_of_file (bytes ">\nnXACg\nNn") ≡ five 1 7 4 1 2
unfolding numbers_of_file
all_foreign = refl

-- Document 02, K2: with the letters ACGT "U and u have T's rank", so that no letter here is foreign.
rna : numbers_of_file (bytes ">\nUGuA\n") ≡ five 1 4 0 1 3
unfolding numbers_of_file
rna = refl

-- "An empty file is taken in with all five numbers 0."
empty_file : numbers_of_file [] ≡ five 0 0 0 0 0
unfolding numbers_of_file
empty_file = refl

-- And it has no fault: neither 10 nor 11 refuses it.
empty_faultless : file_fault [] ≡ None
unfolding is_letter lf_next line_item item next items_from fault_from
empty_faultless = refl
