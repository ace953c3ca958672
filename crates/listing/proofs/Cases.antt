-- Computed checks of the listing's definition: the worked example of document 01 with its number of classes (document 02, K6), counts of several digits, and a
-- table with no count.
use Rattle.std.proofs.Common.{◌≡◌, refl, List, [], ◌∷◌, ℕ, replicate}
use Rattle.laws.specs.Text.{bytes}
use Rattle.settings.specs.Settings.{is_odd, half_up, classes}
use Rattle.encoding.specs.WordsOfCodes.{word_of_plain, pair_of_rank, middle_of_code, word_of}
use Rattle.encoding.specs.Words.{mirror_rank}
use Rattle.encoding.specs.Calls.{in_capitals, word_bytes}
use Rattle.tally_book.specs.Demand.{sum}
use Rattle.texts.specs.Decimals.{decimal_from, decimal}
use Rattle.survey.specs.Line.{survey_line}
use Rattle.listing.specs.Listing.{count_line, count_lines, total_line, listing_of, listing}
use Rattle.settings.specs.Given.{the_settings}

-- The listing of a table. A case that unfolds it computes with all that its `unfolding` line names.
unfoldable listed : (letters : List ℕ) (k mirror : ℕ) (table : List ℕ) → List ℕ
unfolding listing_of survey_line decimal decimal_from count_lines count_line total_line sum word_bytes in_capitals word_of word_of_plain pair_of_rank middle_of_code
    mirror_rank classes is_odd half_up
listed letters k mirror table = listing (the_settings letters k mirror) table

-- The counts of the classes AT CG GC TA AG AC AA CC CA GA after the worked example's file, and two later places that are not listed.
abbrev worked_counts : List ℕ
worked_counts = 0 ∷ 1 ∷ 1 ∷ 0 ∷ 2 ∷ 2 ∷ 0 ∷ 0 ∷ 0 ∷ 0 ∷ 7 ∷ 7 ∷ []

-- Document 01's worked example: the survey line, a line for each of the four classes with a count, the total. "`(classes 10)` in the document 01 case".
worked_example : listed (bytes "ACGT") 2 1 worked_counts
    ≡ bytes "(survey (letters ACGT) (k 2) (mirror complement) (classes 10))\n(count CG 1)\n(count GC 1)\n(count AG 2)\n(count AC 2)\n(total 6)\n"
unfolding listed
worked_example = refl

-- Counts of several digits; a class with the count 0 has no line.
long_count : listed (bytes "AB") 1 0 (0 ∷ 120 ∷ [])
    ≡ bytes "(survey (letters AB) (k 1) (mirror reversal) (classes 2))\n(count B 120)\n(total 120)\n"
unfolding listed
long_count = refl

no_counts : listed (bytes "ACGT") 2 1 (replicate 10 0) ≡ bytes "(survey (letters ACGT) (k 2) (mirror complement) (classes 10))\n(total 0)\n"
unfolding listed
no_counts = refl
