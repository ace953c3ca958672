-- Computed checks of the definitions: texts that were worked out apart from them, the ends of lines, records of 0 letters, and the grounds 1 and 7 (6
-- would need a text of 16,777,217 bytes).
use Rattle.std.proofs.Common.{◌≡◌, refl, None, Some, List, [], ℕ}
use Rattle.laws.specs.Text.{bytes}
use Rattle.settings.specs.Settings.{is_capital, is_in, different_capitals, good_letters, bad_size, settings_ground}
use Rattle.encoding.specs.Calls.{in_capitals}
use Rattle.texts.specs.Decimals.{decimal_from, decimal}
use Rattle.settings.specs.Limits.{too_long}
use Rattle.testload.specs.TestLoad.{stepped, drawn_rank, drawn, state_after, in_lines, drawn_letters, record_text, records_from, test_load, generate_ground}
use Rattle.settings.specs.Given.{the_settings}

-- The test load. A case that unfolds it computes with all that its `unfolding` line names.
unfoldable generated : (letters : List ℕ) (start records each : ℕ) → List ℕ
unfolding stepped drawn_rank drawn state_after in_lines drawn_letters in_capitals record_text records_from decimal decimal_from
generated letters start records each = test_load letters start records each

-- The state runs on from record to record; from the largest start too it is cut to 64 bits.
two_records : generated (bytes "ACGT") 1 2 5 ≡ bytes ">1\nCGGCT\n>2\nGGATA\n"
unfolding generated
two_records = refl

largest_start : generated (bytes "ABC") 18446744073709551615 3 2 ≡ bytes ">1\nCC\n>2\nBB\n>3\nCB\n"
unfolding generated
largest_start = refl

-- 60 letters are one line, 61 are two.
whole_line : generated (bytes "ACGT") 0 1 60
    ≡ bytes ">1\nAAGCCGACCCGCAATAGTACGGTACCACAGCAGAGGGGGAAAAAGATCACTTTTATCAGC\n"
unfolding generated
whole_line = refl

two_lines : generated (bytes "ACGT") 0 1 61
    ≡ bytes ">1\nAAGCCGACCCGCAATAGTACGGTACCACAGCAGAGGGGGAAAAAGATCACTTTTATCAGC\nA\n"
unfolding generated
two_lines = refl

-- "A record of 0 letters is its header only"; no records are no text.
headers_only : generated (bytes "AB") 7 10 0 ≡ bytes ">1\n>2\n>3\n>4\n>5\n>6\n>7\n>8\n>9\n>10\n"
unfolding generated
headers_only = refl

no_records : generated (bytes "AB") 7 0 5 ≡ []
unfolding generated
no_records = refl

-- A ground of the settings comes first, else 7 with the length.
bad_letters : generate_ground (the_settings (bytes "AA") 1 0) (bytes ">1\n") 0 ≡ Some (1, 0)
unfolding generate_ground settings_ground good_letters different_capitals is_capital is_in bad_size too_long
bad_letters = refl

short_buffer : generate_ground (the_settings (bytes "AB") 1 0) (bytes ">1\n") 2 ≡ Some (7, 3)
unfolding generate_ground settings_ground good_letters different_capitals is_capital is_in bad_size too_long
short_buffer = refl

room_enough : generate_ground (the_settings (bytes "AB") 1 0) (bytes ">1\n") 3 ≡ None
unfolding generate_ground settings_ground good_letters different_capitals is_capital is_in bad_size too_long
room_enough = refl
