-- The definitions of demand 3 from C computed on three calls, with ACGT, k 2 and complement, of which the second has a list of four places; and which ground comes
-- first for such a list.
use Rattle.std.proofs.Common.{◌≡◌, refl, Some, List, [], ◌∷◌, replicate}
use Rattle.laws.specs.Text.{bytes}
use Rattle.laws.specs.Windows.{windows}
use Rattle.settings.specs.Grounds.{refused}
use Rattle.settings.specs.Settings.{is_capital, is_in, different_capitals, good_letters, capital_of, reads_u_as_t, read_as, place_from, is_odd, half_up, classes, bad_size, settings_ground}
use Rattle.encoding.specs.Words.{mirror_rank, mirror, plain, canonical}
use Rattle.fasta.specs.Items.{records_in, letters_in, one_if_foreign, foreign_in, marks, on_first, runs, edge, edges_of, windows_of}
use Rattle.fasta.specs.File.{is_letter, lf_next, line_item, item, next, items_from, fault_from}
use Rattle.files.specs.declared.Kind.TheVariants.{Fasta}
use Rattle.files.specs.File.{File, file_of}
use Rattle.settings.specs.Limits.{too_long}
use Rattle.tally_book.specs.Table.{windows_of_file, full, too_many, ready_ground, call_ground, add, withdraw}
use Rattle.tally_book.specs.Book.{same_word, same_class, hits, with_front, all_words, canonical_ones, cleared_book, some_of}
use Rattle.kmer.specs.FileCalls.{into_ground}
use Rattle.kmer.specs.Demand.{Asked, short_answer, with_room, table_calls, book_told}
use Rattle.settings.specs.Given.{the_settings}

abbrev read : File
read = file_of Fasta (bytes ">a\nACGTN\n")

-- An add with a list of six places, a withdrawal with a list of four, and the same with a list of five.
abbrev three : List Asked
three =
    record { call = add read; lent = replicate 6 9 }
    ∷ record { call = withdraw read; lent = replicate 4 9 }
    ∷ record { call = withdraw read; lent = replicate 5 9 }
    ∷ []

-- The second is no call on the table.
with_room_lem : table_calls three ≡ add read ∷ withdraw read ∷ []
unfolding with_room
with_room_lem = refl

-- It is refused 7 with P 5; it would be 7 with P 10 on a table of nine places, one too few, and 4 with k 0.
short_list : (short_answer (the_settings (bytes "ACGT") 2 1) 10 (withdraw read) ≡ refused (7, 5)) × (short_answer (the_settings (bytes "ACGT") 2 1) 9 (withdraw read) ≡ refused (7, 10))
    × (short_answer (the_settings (bytes "ACGT") 0 1) 10 (withdraw read) ≡ refused (4, 0))
unfolding ready_ground settings_ground good_letters different_capitals is_capital is_in is_odd half_up classes bad_size too_long too_many
short_list = (refl, refl, refl)

-- What the book tells of the three: 2^63 + 5 * 256 + 7 is the refusal, whose list is as it was lent. It took nothing out, else the last
-- call were refused 18.
three_told : book_told (the_settings (bytes "ACGT") 2 1) cleared_book three
    ≡ record { number = 5; list = 1 ∷ 5 ∷ 1 ∷ 1 ∷ 3 ∷ 9 ∷ [] }
    ∷ record { number = 9223372036854777095; list = 9 ∷ 9 ∷ 9 ∷ 9 ∷ [] }
    ∷ record { number = 5; list = 1 ∷ 5 ∷ 1 ∷ 1 ∷ 3 ∷ [] }
    ∷ []
unfolding book_told call_ground ready_ground settings_ground good_letters different_capitals is_capital is_in is_odd half_up classes bad_size too_long too_many fault_from
    items_from item next line_item is_letter lf_next records_in letters_in foreign_in one_if_foreign marks runs on_first windows_of windows edges_of edge place_from
    capital_of reads_u_as_t read_as windows_of_file full all_words with_front canonical_ones same_word same_class hits canonical plain mirror mirror_rank some_of
three_told = refl

-- "the table before others", and the list before the file's bytes: a stray byte is told where the list has room.
stray_byte : (into_ground (the_settings (bytes "ACGT") 2 1) (replicate 9 0) (add (file_of Fasta (bytes ">a\nAC-"))) 4 ≡ Some (7, 10))
    × (into_ground (the_settings (bytes "ACGT") 2 1) (replicate 10 0) (add (file_of Fasta (bytes ">a\nAC-"))) 4 ≡ Some (7, 5))
    × (into_ground (the_settings (bytes "ACGT") 2 1) (replicate 10 0) (add (file_of Fasta (bytes ">a\nAC-"))) 5 ≡ Some (10, 5))
unfolding into_ground ready_ground settings_ground good_letters different_capitals is_capital is_in is_odd half_up classes bad_size too_long too_many fault_from
    items_from item next line_item is_letter lf_next
stray_byte = (refl, refl, refl)
