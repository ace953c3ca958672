-- Document 01, "Listing and counter program", and document 02, K1, K5 and K6: what the program prints for every input.
use Rattle.std.specs.Prelude.{◌≡◌, ℕ, ◌≤◌, cond, List, ◌++◌, length, replicate, ltb}
use Rattle.std.proofs.lemmas.List.Edits.{sets}
use Rattle.laws.specs.Text.{bytes}
use Rattle.settings.specs.Grounds.{Ground, Outcome, given, refused, outcome}
use Rattle.settings.specs.Settings.{rank_in}
use Rattle.lines.specs.Lines.{first_byte_is}
use Rattle.fasta.specs.declared.Numbers.{Numbers}
use Rattle.files.specs.declared.Kind.{Kind}
use Rattle.files.specs.declared.Kind.TheVariants.{Fasta, Fastq}
use Rattle.files.specs.File.{File, file_of, file_numbers}
use Rattle.tally_book.specs.Table.{add, table_ground, table_after}
use Rattle.texts.specs.Decimals.{decimal}
use Rattle.survey.specs.Claims.{InputParts}
use Rattle.survey.specs.Reading.{read_input}
use Rattle.listing.specs.Listing.{listing}
use Rattle.settings.specs.Given.{Given, the_settings}

-- (file (records 2) (letters 9) (foreign 1) (edge 2) (windows 6)) and LF
unfoldable pub file_line : Numbers → List ℕ
file_line n =
    bytes "(file (records " ++ (decimal n.records ++ (bytes ") (letters " ++ (decimal n.letters ++ (bytes ") (foreign "
    ++ (decimal n.foreign ++ (bytes ") (edge " ++ (decimal n.edge ++ (bytes ") (windows " ++ (decimal n.windows ++ bytes "))\n")))))))))

-- "A refusal prints only `(refused N P)`": the number, P, and LF.
unfoldable pub refused_line : Ground → List ℕ
refused_line g = bytes "(refused " ++ (decimal g.0 ++ (bytes " " ++ (decimal g.1 ++ bytes ")\n")))

-- Where standard input could not be read to its end, for which document 01 has no number: how many bytes were read before the read that failed, and LF.
unfoldable pub unread_line : ℕ → List ℕ
unread_line n = bytes "(unread " ++ (decimal n ++ bytes ")\n")

-- "It has 16,384 places": the table, cleared.
unfoldable pub cleared_table : List ℕ
cleared_table = replicate 16384 0

-- It "prints the whole listing, then the file line", of the table that the add of the file leaves; or the refusal.
abbrev pub answer_text : (settings : Given) (file : File) → Outcome Numbers → List ℕ
answer_text settings file (given n) = listing settings (table_after settings cleared_table (add file)) ++ file_line n
answer_text settings file (refused g) = refused_line g

-- What is printed for settings and a file: the add to a cleared table of 16,384 places answers it.
unfoldable pub survey_text : (settings : Given) (file : File) → List ℕ
survey_text settings file =
    answer_text settings file (outcome (table_ground settings cleared_table (add file)) (file_numbers (rank_in settings.letters) settings.k file))

-- "the program takes a file whose first byte is @ for FASTQ" (64 is @), and any other, an empty one too, for FASTA.
unfoldable pub kind_by_first_byte : (bytes : List ℕ) → Kind
kind_by_first_byte bytes = cond (first_byte_is 64 bytes) Fastq Fasta

abbrev pub program_file : (bytes : List ℕ) → File
program_file bytes = file_of (kind_by_first_byte bytes) bytes

-- "a survey line, then a sequence file": what is printed for what the input is read as; 13 and 19 (document 02, K5: "it precedes 1") are the reader's.
unfoldable pub line_text : Outcome InputParts → List ℕ
line_text (given p) = survey_text (the_settings p.letters p.k p.mirror) (program_file p.file)
line_text (refused g) = refused_line g

-- 14, "standard input above 65,536 bytes", comes before 13 and 19.
unfoldable pub program_text : (input : List ℕ) → List ℕ
program_text input = cond (ltb 65536 (length input)) (refused_line (14, 0)) (line_text (read_input input))

-- The contract of the program's function: the text stands at the start of the buffer, as far as the buffer goes; r is its length, and 2 MiB are
-- room enough for it.
pub record Prints (text old : List ℕ) (r : ℕ) (new : List ℕ) : Type 0 where
  pub answers : r ≡ length text
  pub leaves : new ≡ sets old 0 text
  pub short : r ≤ 2097152
