-- The order of a scan's grounds, computed on a file of one stray byte, of either kind. By computation.
use Rattle.std.proofs.Common.{◌≡◌, refl, Option, Some, List, ℕ}
use Rattle.laws.specs.Text.{bytes}
use Rattle.lines.specs.Lines.{lf_next, on_first, lines, text_of, first_byte_is}
use Rattle.settings.specs.Grounds.{Ground}
use Rattle.settings.specs.Settings.{is_capital, is_in, different_capitals, good_letters, bad_size, settings_ground}
use Rattle.fasta.specs.File.{is_letter, line_item, item, next, items_from, fault_from}
use Rattle.fastq.specs.Fastq.{is_there, unless_at, first_failing, is_quality, record_fault, fastq_fault}
use Rattle.files.specs.declared.Kind.TheVariants.{Fasta, Fastq}
use Rattle.files.specs.File.{file_of}
use Rattle.settings.specs.Limits.{too_long}
use Rattle.files.specs.Scan.{scan_ground}
use Rattle.settings.specs.Given.{the_settings}

-- The grounds of a scan under some settings, of a FASTA file with a stray byte.
unfoldable ground_before_stray : (letters : List ℕ) (k mirror : ℕ) → Option Ground
unfolding is_letter lf_next line_item item next items_from fault_from is_capital is_in different_capitals good_letters bad_size settings_ground too_long scan_ground
ground_before_stray letters k mirror = scan_ground (the_settings letters k mirror) (file_of Fasta (bytes "*"))

-- "Checks go in number order": the settings' grounds, then those of the file. Ground 6, which comes between them, is of files too long to be written here:
-- `long_file` in ScanGrounds shows it.
bad_letters : ground_before_stray (bytes "AA") 0 2 ≡ Some (1, 0)
unfolding ground_before_stray
bad_letters = refl

bad_mirror : ground_before_stray (bytes "ACG") 0 2 ≡ Some (2, 0)
unfolding ground_before_stray
bad_mirror = refl

bad_k : ground_before_stray (bytes "ACGT") 32 1 ≡ Some (4, 0)
unfolding ground_before_stray
bad_k = refl

bad_byte : ground_before_stray (bytes "ACGT") 31 1 ≡ Some (10, 0)
unfolding ground_before_stray
bad_byte = refl

-- "Refusal 3 then never occurs" (document 02, K10): an odd number of letters under complement is no ground, up to the largest k.
odd_bad_k : ground_before_stray (bytes "ACG") 40 1 ≡ Some (4, 0)
unfolding ground_before_stray
odd_bad_k = refl

odd_bad_byte : ground_before_stray (bytes "ACG") 39 1 ≡ Some (10, 0)
unfolding ground_before_stray
odd_bad_byte = refl

-- "these stand where 10 and 11 stood" (document 02, K1): the same file as FASTQ.
unfoldable ground_before_record : (letters : List ℕ) (k mirror : ℕ) → Option Ground
unfolding lf_next on_first lines text_of first_byte_is is_letter is_there unless_at first_failing is_quality record_fault fastq_fault
    is_capital is_in different_capitals good_letters bad_size settings_ground too_long scan_ground
ground_before_record letters k mirror = scan_ground (the_settings letters k mirror) (file_of Fastq (bytes "*"))

record_bad_k : ground_before_record (bytes "ACGT") 32 1 ≡ Some (4, 0)
unfolding ground_before_record
record_bad_k = refl

bad_record : ground_before_record (bytes "ACGT") 31 1 ≡ Some (15, 0)
unfolding ground_before_record
bad_record = refl
