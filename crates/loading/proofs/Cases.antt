-- Computed cases of the definitions: listings that are loaded, and each ground at its place.
use Rattle.std.proofs.Common.{◌≡◌, refl, Option, None, Some, List, [], ◌∷◌, ◌++◌, ℕ}
use Prim.Native.String.{String}
use Rattle.laws.specs.Text.{bytes}
use Rattle.settings.specs.Grounds.{Ground}
use Rattle.settings.specs.Settings.{is_capital, is_in, different_capitals, good_letters, capital_of, place_from, reads_u_as_t, read_as, is_odd, half_up, classes, bad_size, settings_ground}
use Rattle.encoding.specs.Words.{mirror_rank, mirror, plain, canonical}
use Rattle.encoding.specs.Codes.{pair_rank, digits, differing_pair, shift, odd_shift, code_of_canonical, code}
use Rattle.encoding.specs.Calls.{ranks_of}
use Rattle.survey.specs.Grammar.{spelt}
use Rattle.survey.specs.Reading.{starts_with, stretch, value_byte, sized, mirror_number, number_of, form_of, form_from, form_at, next_form, in_order}
use Rattle.tally_book.specs.Table.{too_many, clear_ground}
use Rattle.tally_book.specs.Book.{same_word}
use Rattle.texts.specs.Decimals.{decimal_from, decimal}
use Rattle.lines.specs.Lines.{on_first, lines}
use Rattle.fastq.specs.Fastq.{unless_at}
use Rattle.survey.specs.Line.{survey_line}
use Rattle.listing.specs.Listing.{total_line}
use Rattle.loading.specs.Shapes.{all_digits, is_number, of_letters, is_count_line, is_total_line, is_classes_end, classes_last, is_survey_line}
use Rattle.loading.specs.Loading.{good_count, next_after, line_fault, load_fault, load_ground, loaded_from, loaded_counts}
use Rattle.settings.specs.Given.{the_settings}

-- The ground for refusing a text, with a table of so many places, and its counts, under ACGT, 2, complement. A case that unfolds one computes with all that
-- its `unfolding` line names.
unfoldable ground_for : (room : ℕ) → List ℕ → Option Ground
unfolding is_capital is_in different_capitals good_letters capital_of place_from reads_u_as_t read_as is_odd half_up classes bad_size settings_ground
    mirror_rank mirror plain canonical pair_rank digits differing_pair shift odd_shift code_of_canonical code ranks_of spelt
    starts_with stretch value_byte sized mirror_number number_of form_of form_from form_at next_form too_many clear_ground same_word decimal_from decimal total_line
    on_first lines unless_at all_digits is_number of_letters is_count_line is_total_line is_classes_end in_order classes_last is_survey_line survey_line
    good_count next_after line_fault load_fault load_ground
ground_for room text = load_ground (the_settings (bytes "ACGT") 2 1) room text

unfoldable counts_of : List ℕ → List ℕ
unfolding is_capital is_in different_capitals good_letters capital_of place_from reads_u_as_t read_as is_odd half_up classes
    mirror_rank mirror plain canonical pair_rank digits differing_pair shift odd_shift code_of_canonical code ranks_of spelt
    same_word on_first lines all_digits is_number is_total_line loaded_from loaded_counts
counts_of text = loaded_counts (the_settings (bytes "ACGT") 2 1) text

-- A text behind the survey line of these settings, which has 63 bytes.
abbrev behind : String → List ℕ
behind text = bytes "(survey (letters ACGT) (k 2) (mirror complement) (classes 10))\n" ++ bytes text

abbrev Loaded : String → Type 0
Loaded text = ground_for 10 (behind text) ≡ None

abbrev Refused : String → Ground → Type 0
Refused text g = ground_for 10 (behind text) ≡ Some g

abbrev RefusedText : String → Ground → Type 0
RefusedText text g = ground_for 10 (bytes text) ≡ Some g

-- Listings, and their counts. (The highest count with its total is not computed: `decimal` of a high number is too deep. Only the total is missed.)
good : Loaded "(count CG 1)\n(count GC 1)\n(count AG 2)\n(count AC 2)\n(total 6)\n"
    × (counts_of (behind "(count CG 1)\n(count GC 1)\n(count AG 2)\n(count AC 2)\n(total 6)\n") ≡ 0 ∷ 1 ∷ 1 ∷ 0 ∷ 2 ∷ 2 ∷ 0 ∷ 0 ∷ 0 ∷ 0 ∷ [])
    × Loaded "(total 0)\n"
    × (counts_of (behind "(total 0)\n") ≡ 0 ∷ 0 ∷ 0 ∷ 0 ∷ 0 ∷ 0 ∷ 0 ∷ 0 ∷ 0 ∷ 0 ∷ [])
    × Loaded "(count GA 120)\n(total 120)\n"
    × Refused "(count GA 4294967295)\n" (20, 85)
unfolding ground_for counts_of
good = (refl, refl, refl, refl, refl, refl)

-- 7 comes first, and P is the number of classes.
short_table : ground_for 9 [] ≡ Some (7, 10)
unfolding ground_for
short_table = refl

-- 20: a line "is missing": P is the text's length.
missing-line :
    RefusedText "" (20, 0)
    × Refused "" (20, 63)
    × Refused "(count CG 1)\n" (20, 76)
unfolding ground_for
missing-line = (refl, refl, refl)

-- 20: a line without LF has no shape: P is its offset.
no_lf :
    RefusedText "(survey (letters ACGT) (k 2) (mirror complement) (classes 10))" (20, 0)
    × Refused "(count CG 1)" (20, 63)
    × Refused "(count CG 1)\n(total 1)" (20, 76)
    × Refused "(count CG 1)\n(total 1)\r\n" (20, 76)
unfolding ground_for
no_lf = (refl, refl, refl, refl)

-- 20: a line "stands where another kind or none belongs".
no_place :
    RefusedText "(count CG 1)\n(total 1)\n" (20, 0)
    × RefusedText "(total 0)\n" (20, 0)
    × Refused "(survey (letters ACGT) (k 2) (mirror complement) (classes 10))\n(total 0)\n" (20, 63)
    × Refused "(total 0)\n(total 0)\n" (20, 73)
    × Refused "(total 0)\n\n" (20, 73)
    × Refused "(total 0)\n(file (records 1))\n" (20, 73)
    × Refused "\n(total 0)\n" (20, 63)
unfolding ground_for
no_place = (refl, refl, refl, refl, refl, refl, refl)

-- 20: "none of the listing's shapes": no number, no word of two capitals of the settings, U for T, a space too many.
no_shape :
    Refused "(count CG 01)\n(total 1)\n" (20, 63)
    × Refused "(count CG )\n(total 1)\n" (20, 63)
    × Refused "(count CG -1)\n(total 1)\n" (20, 63)
    × Refused "(total 00)\n" (20, 63)
    × Refused "(count CGG 1)\n(total 1)\n" (20, 63)
    × Refused "(count C 1)\n(total 1)\n" (20, 63)
    × Refused "(count cg 1)\n(total 1)\n" (20, 63)
    × Refused "(count UA 1)\n(total 1)\n" (20, 63)
    × Refused "(count CX 1)\n(total 1)\n" (20, 63)
    × Refused "(count  CG 1)\n(total 1)\n" (20, 63)
    × Refused "(count CG 1))\n(total 1)\n" (20, 63)
unfolding ground_for
no_shape = (refl, refl, refl, refl, refl, refl, refl, refl, refl, refl, refl)

-- 20 and 21: the survey line. Another order, no classes, a k with a leading zero have no shape; other settings or classes, of any length, have.
survey_line_lem :
    RefusedText "(survey (k 2) (letters ACGT) (mirror complement) (classes 10))\n(total 0)\n" (20, 0)
    × RefusedText "(survey (letters ACGT) (k 2) (mirror complement))\n(total 0)\n" (20, 0)
    × RefusedText "(survey (letters ACGT) (k 02) (mirror complement) (classes 10))\n(total 0)\n" (20, 0)
    × RefusedText "(survey (letters ACGT) (k 2) (mirror complement) (classes 010))\n(total 0)\n" (20, 0)
    × RefusedText "(survey (letters ACGT) (k 2) (mirror complement) (classes 10))\r\n(total 0)\n" (20, 0)
    × RefusedText "(survey (letters ACGT) (k 3) (mirror complement) (classes 32))\n(total 0)\n" (21, 0)
    × RefusedText "(survey (letters ACGT) (k 2) (mirror complement) (classes 11))\n(total 0)\n" (21, 0)
    × RefusedText "(survey (letters ACGT) (k 2) (mirror complement) (classes 100000000000000000000000000010))\n(total 0)\n" (21, 0)
    × RefusedText "(survey (letters TGCA) (k 2) (mirror complement) (classes 10))\n(total 0)\n" (21, 0)
    × RefusedText "(survey (letters acgt) (k 2) (mirror foo) (classes 0))\n" (21, 0)
unfolding ground_for
survey_line_lem = (refl, refl, refl, refl, refl, refl, refl, refl, refl, refl)

-- 22: "a word is not canonical, its code does not rise, a count is not 1 to 4,294,967,295, or the total is not the sum".
bad_count :
    Refused "(count GT 1)\n(total 1)\n" (22, 63)
    × Refused "(count CG 1)\n(count CG 1)\n(total 2)\n" (22, 76)
    × Refused "(count GC 1)\n(count CG 1)\n(total 2)\n" (22, 76)
    × Refused "(count CG 0)\n(total 0)\n" (22, 63)
    × Refused "(count CG 4294967296)\n(total 4294967296)\n" (22, 63)
    × Refused "(count CG 100000000000000000000000000001)\n(total 1)\n" (22, 63)
    × Refused "(count CG 1)\n(total 2)\n" (22, 76)
    × Refused "(count CG 1)\n(total 100000000000000000000000000001)\n" (22, 76)
    × Refused "(total 1)\n" (22, 63)
unfolding ground_for
bad_count = (refl, refl, refl, refl, refl, refl, refl, refl, refl)

-- "the first line at fault wins": 22 before a later 20, 20 before a later 22.
first_wins :
    Refused "(count CG 0)\nx\n" (22, 63)
    × Refused "x\n(count CG 0)\n" (20, 63)
    × RefusedText "(survey (letters ACGT) (k 3) (mirror complement) (classes 32))\nx" (21, 0)
unfolding ground_for
first_wins = (refl, refl, refl)
