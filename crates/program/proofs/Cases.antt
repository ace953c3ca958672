-- Computed checks of the program's definition: the worked example of document 01 and cases of document 02, K10, K1, K5 and K6, from input to output, and
-- refusals.
use Rattle.std.proofs.Common.{◌≡◌, refl, List, ◌++◌, ℕ}
use Prim.Native.String.{String}
use Rattle.laws.specs.Text.{bytes}
use Rattle.laws.specs.Windows.{windows}
use Rattle.lines.specs.Lines.{lines, text_of, first_byte_is}
use Rattle.settings.specs.Settings.{is_capital, is_in, different_capitals, good_letters, capital_of, reads_u_as_t, read_as, place_from, is_odd, half_up, classes, bad_size, settings_ground}
use Rattle.encoding.specs.Words.{mirror_rank, mirror, plain, canonical}
use Rattle.encoding.specs.Codes.{pair_rank, digits, differing_pair, shift, odd_shift, code_of_canonical, code}
use Rattle.encoding.specs.WordsOfCodes.{word_of_plain, pair_of_rank, middle_of_code, word_of}
use Rattle.encoding.specs.Calls.{in_capitals, word_bytes}
use Rattle.fasta.specs.Items.{records_in, letters_in, one_if_foreign, foreign_in, marks, on_first, runs, edge, edges_of, windows_of}
use Rattle.fasta.specs.File.{is_letter, lf_next, line_item, item, next, items_from, fault_from}
use Rattle.fastq.specs.Fastq.{is_there, unless_at, first_failing, is_quality, record_fault, fastq_fault}
use Rattle.settings.specs.Limits.{too_long}
use Rattle.tally_book.specs.Table.{windows_of_file, change, changes, one_more, full, too_many, ready_ground, call_ground}
use Rattle.tally_book.specs.Demand.{sum}
use Rattle.texts.specs.Decimals.{decimal_from, decimal}
use Rattle.survey.specs.Grammar.{spelt}
use Rattle.survey.specs.Line.{survey_line}
use Rattle.survey.specs.Reading as reading
use Rattle.listing.specs.Listing.{count_line, count_lines, total_line, listing_of}
use Rattle.program.specs.Program.{file_line, refused_line, cleared_table, survey_text, kind_by_first_byte, line_text, program_text}

-- What is printed for an input. A case that unfolds it computes with all that its `unfolding` line names.
unfoldable output_of : String → List ℕ
unfolding program_text line_text kind_by_first_byte survey_text refused_line file_line cleared_table listing_of survey_line count_lines count_line total_line sum decimal decimal_from
    word_bytes in_capitals word_of word_of_plain pair_of_rank middle_of_code mirror_rank
    call_ground ready_ground settings_ground good_letters different_capitals is_capital is_in
    is_odd half_up classes bad_size too_long too_many fault_from items_from item next line_item is_letter lf_next
    records_in letters_in foreign_in one_if_foreign marks runs on_first windows_of windows edges_of edge place_from capital_of reads_u_as_t read_as windows_of_file full change changes one_more
    code code_of_canonical canonical plain mirror digits pair_rank differing_pair shift odd_shift
    reading.read_input reading.read_line reading.line_from reading.head_of reading.by_order reading.in_order reading.each_once reading.line_end reading.end_after reading.next_form reading.form_at
    reading.form_from reading.form_of reading.number_of reading.mirror_number reading.sized reading.value_byte reading.stretch
    reading.starts_with spelt
    lines text_of first_byte_is is_there unless_at first_failing is_quality record_fault fastq_fault
output_of input = program_text (bytes input)

abbrev Gives : String → String → Type 0
Gives input output = output_of input ≡ bytes output

-- The refusals of inputs that start with no survey line (13), and of settings (1, 2 and 4).
refusals :
    Gives "" "(refused 13 0)\n"
    × Gives "(survey (letters ACGT) (k 2))\n>a\nAC\n" "(refused 13 0)\n"
    × Gives "(survey (letters ACCT) (k 2) (mirror complement))\n" "(refused 1 0)\n"
    × Gives "(survey (letters ACGT) (k 2) (mirror inverse))\n" "(refused 2 0)\n"
    × Gives "(survey (letters ACGT) (k 0) (mirror complement))\n" "(refused 4 0)\n"
unfolding output_of
refusals = (refl, refl, refl, refl, refl)

-- Document 02, K5: forms in another order (19), before any ground of the settings or of the file, after 13.
order_of_forms :
    Gives "(survey (k 2) (letters ACGT) (mirror complement))\n>a\nAC\n" "(refused 19 0)\n"
    × Gives "(survey (k 0) (letters AA) (mirror foo))\n-" "(refused 19 0)\n"
    × Gives "(survey (k 01) (letters ACGT) (mirror complement))\n>a\nAC\n" "(refused 13 0)\n"
unfolding output_of
order_of_forms = (refl, refl, refl)

-- Document 02, K6: "The line that the program reads has no such form." So the line that we print is no survey line, whatever the number, and 13 stands before
-- 19 and before the grounds of the settings.
number_of_classes :
    Gives "(survey (letters ACGT) (k 2) (mirror complement) (classes 10))\n>a\nAC\n" "(refused 13 0)\n"
    × Gives "(survey (letters ACGT) (k 2) (mirror complement) (classes 11))\n" "(refused 13 0)\n"
    × Gives "(survey (k 2) (letters ACGT) (mirror complement) (classes 10))\n" "(refused 13 0)\n"
    × Gives "(survey (letters ACCT) (k 0) (classes 10) (mirror inverse))\n" "(refused 13 0)\n"
unfolding output_of
number_of_classes = (refl, refl, refl, refl)

-- Too many classes for any table; too many for the program's; a stray byte and an early letter, with their offsets in the file.
more_refusals :
    Gives "(survey (letters ACGT) (k 13) (mirror complement))\n" "(refused 6 0)\n"
    × Gives "(survey (letters ACGT) (k 8) (mirror complement))\n" "(refused 7 32896)\n"
    × Gives "(survey (letters ACGT) (k 2) (mirror complement))\n>a\nAC-GT\n" "(refused 10 5)\n"
    × Gives "(survey (letters ACGT) (k 2) (mirror complement))\n\nACGT\n" "(refused 11 1)\n"
unfolding output_of
more_refusals = (refl, refl, refl, refl)

-- Document 01's worked example, from input to output.
worked_example :
    output_of "(survey (letters ACGT) (k 2) (mirror complement))\n>a\nACGTN\n>b\nAG\nCT\n"
    ≡ bytes "(survey (letters ACGT) (k 2) (mirror complement) (classes 10))\n(count CG 1)\n(count GC 1)\n(count AG 2)\n(count AC 2)\n(total 6)\n"
    ++ bytes "(file (records 2) (letters 9) (foreign 1) (edge 2) (windows 6))\n"
unfolding output_of
worked_example = refl

-- Document 02, K10: three letters under complement. B, its own mirror, has the code 0, A and C have the code 1.
odd_alphabet :
    output_of "(survey (letters ABC) (k 1) (mirror complement))\n>a\nABCB\n"
    ≡ bytes "(survey (letters ABC) (k 1) (mirror complement) (classes 2))\n(count B 2)\n(count A 2)\n(total 4)\n"
    ++ bytes "(file (records 1) (letters 4) (foreign 0) (edge 0) (windows 4))\n"
unfolding output_of
odd_alphabet = refl

-- Document 02, K1: the worked example's reads as FASTQ, known by the file's first byte; and each of its grounds.
fastq_example :
    output_of "(survey (letters ACGT) (k 2) (mirror complement))\n@AC\nACGTN\n+GT\nACGTA\n@b\nAGCT\n+\nCCCC\n"
    ≡ output_of "(survey (letters ACGT) (k 2) (mirror complement))\n>a\nACGTN\n>b\nAG\nCT\n"
unfolding output_of
fastq_example = refl

fastq_refusals :
    Gives "(survey (letters ACGT) (k 2) (mirror complement))\n@a\nAC\n+\nII\n>b\n" "(refused 15 11)\n"
    × Gives "(survey (letters ACGT) (k 2) (mirror complement))\n@a\nA-C\n+\nIII\n" "(refused 10 4)\n"
    × Gives "(survey (letters ACGT) (k 2) (mirror complement))\n@a\nAC\n+\nIII\n" "(refused 16 8)\n"
    × Gives "(survey (letters ACGT) (k 2) (mirror complement))\n@a\nAC\n+\nI \n" "(refused 17 9)\n"
    × Gives "(survey (letters ACGT) (k 8) (mirror complement))\n@a\nAC\n" "(refused 7 32896)\n"
unfolding output_of
fastq_refusals = (refl, refl, refl, refl, refl)
