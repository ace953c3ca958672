-- The definitions computed on small files, with ACGT, k 2 and complement: the example of document 01, "Listing and counter program", in the book and in
-- the table; an empty file; a file that is refused and changes nothing; the example's reads as FASTQ, alone and in a list that mixes both kinds of file;
-- withdrawals.
use Rattle.std.proofs.Common.{◌≡◌, refl, None, Some, [], ◌∷◌, replicate}
use Rattle.laws.specs.Text.{bytes}
use Rattle.lines.specs.Lines.{lines, text_of, first_byte_is}
use Rattle.settings.specs.Grounds.{Outcome, given, refused}
use Rattle.settings.specs.Settings.{is_capital, is_in, different_capitals, good_letters, capital_of, reads_u_as_t, read_as, place_from, is_odd, half_up, classes, bad_size, settings_ground}
use Rattle.encoding.specs.Words.{Complement, mirror_rank, mirror, plain, canonical}
use Rattle.encoding.specs.Codes.{pair_rank, digits, differing_pair, shift, odd_shift, code_of_canonical, code}
use Rattle.fasta.specs.declared.Numbers.{Numbers}
use Rattle.laws.specs.Windows.{windows}
use Rattle.fasta.specs.Items.{records_in, letters_in, one_if_foreign, foreign_in, marks, on_first, runs, edge, edges_of, windows_of}
use Rattle.fasta.specs.File.{is_letter, lf_next, line_item, item, next, items_from, fault_from}
use Rattle.fastq.specs.Fastq.{is_there, unless_at, first_failing, is_quality, record_fault, fastq_fault}
use Rattle.files.specs.declared.Kind.TheVariants.{Fasta, Fastq}
use Rattle.files.specs.File.{File, file_of}
use Rattle.settings.specs.Limits.{too_long}
use Rattle.tally_book.specs.Table.{windows_of_file, change, changes, one_more, one_less, occurrences, places, full, too_many, some_below, ready_ground, call_ground, add, withdraw, table_ground}
use Rattle.tally_book.specs.Book.{same_word, same_class, hits, with_front, all_words, canonical_ones, cleared_book, tallies, some_of, book_answer, book_after, book_answers, book_after_all}
use Rattle.settings.specs.Given.{the_settings}

abbrev example : File
example = file_of Fasta (bytes ">a\nACGTN\n>b\nAG\nCT\n")

abbrev answer_to : File → Outcome Numbers
answer_to file = book_answer (the_settings (bytes "ACGT") 2 1) cleared_book (add file)

-- "(file (records 2) (letters 9) (foreign 1) (edge 2) (windows 6))"
example_answer : answer_to example ≡ given (record { records = 2; letters = 9; foreign = 1; edge = 2; windows = 6 })
unfolding call_ground ready_ground settings_ground good_letters different_capitals is_capital is_in is_odd half_up classes bad_size too_long too_many fault_from
    items_from item next line_item is_letter lf_next records_in letters_in foreign_in one_if_foreign marks runs on_first windows_of windows edges_of edge place_from
    capital_of reads_u_as_t read_as windows_of_file full all_words with_front canonical_ones same_word canonical plain mirror mirror_rank
example_answer = refl

-- "(count CG 1) (count GC 1) (count AG 2) (count AC 2)": these are the codes 1, 2, 4 and 5 of the ten.
example_counts : changes one_more (replicate 10 0) (places (the_settings (bytes "ACGT") 2 1) example) ≡ 0 ∷ 1 ∷ 1 ∷ 0 ∷ 2 ∷ 2 ∷ 0 ∷ 0 ∷ 0 ∷ 0 ∷ []
unfolding changes change one_more windows_of_file windows_of windows runs marks on_first items_from item next line_item is_letter lf_next place_from is_in capital_of reads_u_as_t read_as code code_of_canonical
    canonical plain mirror mirror_rank digits pair_rank differing_pair shift odd_shift half_up is_odd
example_counts = refl

-- The same in the book, by the canonical words AA AC AG AT CA CC CG GA GC TA.
example_tallies : tallies 4 Complement 2 (book_after (the_settings (bytes "ACGT") 2 1) cleared_book (add example)) ≡ 0 ∷ 2 ∷ 2 ∷ 0 ∷ 0 ∷ 0 ∷ 1 ∷ 0 ∷ 1 ∷ 0 ∷ []
unfolding call_ground ready_ground settings_ground good_letters different_capitals is_capital is_in is_odd half_up classes bad_size too_long too_many fault_from
    items_from item next line_item is_letter lf_next marks runs on_first windows_of windows place_from capital_of reads_u_as_t read_as windows_of_file full all_words
    with_front canonical_ones same_word same_class hits canonical plain mirror mirror_rank
example_tallies = refl

-- "An empty file is taken in with all five numbers 0."
empty_file : answer_to (file_of Fasta []) ≡ given (record { records = 0; letters = 0; foreign = 0; edge = 0; windows = 0 })
unfolding call_ground ready_ground settings_ground good_letters different_capitals is_capital is_in is_odd half_up classes bad_size too_long too_many fault_from items_from
    records_in letters_in foreign_in marks runs windows_of windows edges_of edge windows_of_file full all_words with_front canonical_ones same_word canonical plain mirror
    mirror_rank
empty_file = refl

-- A stray byte behind two letters: refused with its offset, and no tally changes.
stray_answer : answer_to (file_of Fasta (bytes ">a\nAC-GT")) ≡ refused (10, 5)
unfolding call_ground ready_ground settings_ground good_letters different_capitals is_capital is_in is_odd half_up classes bad_size too_long too_many fault_from
    items_from item next line_item is_letter lf_next
stray_answer = refl

stray_tallies : tallies 4 Complement 2 (book_after (the_settings (bytes "ACGT") 2 1) cleared_book (add (file_of Fasta (bytes ">a\nAC-GT")))) ≡ replicate 10 0
unfolding call_ground ready_ground settings_ground good_letters different_capitals is_capital is_in is_odd half_up classes bad_size too_long too_many fault_from
    items_from item next line_item is_letter lf_next all_words with_front canonical_ones same_word canonical plain mirror mirror_rank
stray_tallies = refl

-- ---- document 02, K1

-- The example's reads as FASTQ. "Only the sequence counts": header, + and quality lines hold settings letters too.
abbrev reads : File
reads = file_of Fastq (bytes "@AC\nACGTN\n+GT\nACGTA\n@b\nAGCT\n+\nCCCC")

reads_counts : changes one_more (replicate 10 0) (places (the_settings (bytes "ACGT") 2 1) reads) ≡ 0 ∷ 1 ∷ 1 ∷ 0 ∷ 2 ∷ 2 ∷ 0 ∷ 0 ∷ 0 ∷ 0 ∷ []
unfolding changes change one_more windows_of_file windows_of windows runs marks on_first items_from item next line_item is_letter lf_next place_from is_in capital_of reads_u_as_t read_as code code_of_canonical
    canonical plain mirror mirror_rank digits pair_rank differing_pair shift odd_shift half_up is_odd
reads_counts = refl

-- A list that mixes both kinds of file: the example, the same reads as FASTQ, these called FASTA, and a FASTQ file whose second record lacks a quality.
mixed_answers : book_answers (the_settings (bytes "ACGT") 2 1) cleared_book
    (add example ∷ add reads ∷ add (file_of Fasta reads.bytes) ∷ add (file_of Fastq (bytes "@a\nAC\n+\nII\n@b\nAC\n+\nI\n")) ∷ [])
    ≡ answer_to example ∷ answer_to example ∷ refused (10, 0) ∷ refused (16, 19) ∷ []
unfolding call_ground ready_ground settings_ground good_letters different_capitals is_capital is_in is_odd half_up classes bad_size too_long too_many fault_from
    items_from item next line_item is_letter lf_next records_in letters_in foreign_in one_if_foreign marks runs on_first windows_of windows edges_of edge place_from
    capital_of reads_u_as_t read_as windows_of_file full all_words with_front canonical_ones same_word same_class hits canonical plain mirror mirror_rank book_answers lines text_of first_byte_is
    is_there unless_at first_failing is_quality record_fault fastq_fault
mixed_answers = refl

-- An empty file is taken in as FASTQ too.
empty_reads : answer_to (file_of Fastq []) ≡ given (record { records = 0; letters = 0; foreign = 0; edge = 0; windows = 0 })
unfolding call_ground ready_ground settings_ground good_letters different_capitals is_capital is_in is_odd half_up classes bad_size too_long too_many items_from
    records_in letters_in foreign_in marks runs windows_of windows edges_of edge windows_of_file full all_words with_front canonical_ones same_word canonical plain mirror
    mirror_rank lines fastq_fault
empty_reads = refl

-- "these stand where 10 and 11 stood": after 7, the table being one place short, and before 12.
fault_before_full : (call_ground (the_settings (bytes "ACGT") 2 1) 10 (file_of Fastq (bytes "*")) (Some (12, 0)) ≡ Some (15, 0))
    × (call_ground (the_settings (bytes "ACGT") 2 1) 9 (file_of Fastq (bytes "*")) (Some (12, 0)) ≡ Some (7, 10))
unfolding call_ground ready_ground settings_ground good_letters different_capitals is_capital is_in is_odd half_up classes bad_size too_long too_many lf_next on_first lines
    text_of first_byte_is is_letter is_there unless_at first_failing is_quality record_fault fastq_fault
fault_before_full = (refl, refl)

-- ---- document 02, K4

-- What is left of the example where a file with one window of AG's class, CT, and one CG is withdrawn: AG falls to 1 and CG to 0.
abbrev mislabelled : File
mislabelled = file_of Fasta (bytes ">c\nCTNCG\n")

withdrawn_tallies : tallies 4 Complement 2 (book_after_all (the_settings (bytes "ACGT") 2 1) cleared_book (add example ∷ withdraw mislabelled ∷ []))
    ≡ 0 ∷ 2 ∷ 1 ∷ 0 ∷ 0 ∷ 0 ∷ 0 ∷ 0 ∷ 1 ∷ 0 ∷ []
unfolding book_after_all some_of
    call_ground ready_ground settings_ground good_letters different_capitals is_capital is_in is_odd half_up classes bad_size too_long too_many fault_from
    items_from item next line_item is_letter lf_next marks runs on_first windows_of windows place_from capital_of reads_u_as_t read_as windows_of_file full all_words
    with_front canonical_ones same_word same_class hits canonical plain mirror mirror_rank
withdrawn_tallies = refl

withdrawn_counts : changes one_less (0 ∷ 1 ∷ 1 ∷ 0 ∷ 2 ∷ 2 ∷ 0 ∷ 0 ∷ 0 ∷ 0 ∷ []) (places (the_settings (bytes "ACGT") 2 1) mislabelled) ≡ 0 ∷ 0 ∷ 1 ∷ 0 ∷ 1 ∷ 2 ∷ 0 ∷ 0 ∷ 0 ∷ 0 ∷ []
unfolding changes change one_less windows_of_file windows_of windows runs marks on_first items_from item next line_item is_letter lf_next place_from is_in capital_of reads_u_as_t read_as code code_of_canonical
    canonical plain mirror mirror_rank digits pair_rank differing_pair shift odd_shift half_up is_odd
withdrawn_counts = refl

-- A second withdrawal of it finds no CG: 18.
withdrawn_twice : book_answer (the_settings (bytes "ACGT") 2 1) (book_after_all (the_settings (bytes "ACGT") 2 1) cleared_book (add example ∷ withdraw mislabelled ∷ [])) (withdraw mislabelled)
    ≡ refused (18, 0)
unfolding book_after_all some_of
    call_ground ready_ground settings_ground good_letters different_capitals is_capital is_in is_odd half_up classes bad_size too_long too_many fault_from
    items_from item next line_item is_letter lf_next marks runs on_first windows_of windows place_from capital_of reads_u_as_t read_as windows_of_file full all_words
    with_front canonical_ones same_word same_class hits canonical plain mirror mirror_rank
withdrawn_twice = refl

-- 18 read from the table's places: a file with two windows of AG's class, AG and CT, and one GC, where AG stands at 1, and where it stands at 2.
abbrev two_of_a_class : File
two_of_a_class = file_of Fasta (bytes ">c\nAGCT\n")

one_too_few : (table_ground (the_settings (bytes "ACGT") 2 1) (0 ∷ 1 ∷ 1 ∷ 0 ∷ 1 ∷ 2 ∷ 0 ∷ 0 ∷ 0 ∷ 0 ∷ []) (withdraw two_of_a_class) ≡ Some (18, 0))
    × (table_ground (the_settings (bytes "ACGT") 2 1) (0 ∷ 1 ∷ 1 ∷ 0 ∷ 2 ∷ 2 ∷ 0 ∷ 0 ∷ 0 ∷ 0 ∷ []) (withdraw two_of_a_class) ≡ None)
unfolding call_ground ready_ground settings_ground good_letters different_capitals is_capital is_in is_odd half_up classes bad_size too_long too_many fault_from items_from
    item next line_item is_letter lf_next windows_of_file windows_of windows runs marks on_first place_from capital_of reads_u_as_t read_as code code_of_canonical canonical plain
    mirror mirror_rank digits pair_rank differing_pair shift odd_shift some_below occurrences
one_too_few = (refl, refl)

-- "checked after 11": a fault of the file comes before 18.
fault_before_lacking : table_ground (the_settings (bytes "ACGT") 2 1) (replicate 10 0) (withdraw (file_of Fasta (bytes ">a\nACGT-"))) ≡ Some (10, 7)
unfolding call_ground ready_ground settings_ground good_letters different_capitals is_capital is_in is_odd half_up classes bad_size too_long too_many fault_from items_from
    item next line_item is_letter lf_next
fault_before_lacking = refl
