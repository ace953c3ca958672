-- The survey line from the input to the output (document 02, K5 and K6). What is printed for a survey line and a file: `survey_line_text`; where that is a
-- listing, it begins with the line that was read, byte for byte, but for the number of classes before the last bracket: `listing_repeats_the_line`. In an input
-- that 14 does not refuse, forms in another order are refused 19, whatever the settings and the file (`refuses_another_order`), and what is neither 13
-- (`refuses_neither`), so also what begins with the line that we print (`refuses_the_printed_line`); that these are printed only then is in RefusalNumbers.
-- From what is proved of reading a survey line, and of the line that we print.
use Rattle.std.proofs.Common.{◌≡◌, ◌∙◌, None, List, ◌++◌, append_assoc, ℕ, ◌≤◌, le-ltb, length}
use Rattle.laws.specs.Text.{bytes}
use Rattle.settings.specs.Settings.{rank_in, settings_ground}
use Rattle.settings.proofs.Outcomes.{first_none}
use Rattle.files.specs.File.{file_numbers}
use Rattle.tally_book.specs.Table.{class_count, ready_ground, call_ground, add, table_ground, table_after}
use Rattle.tally_book.proofs.Ready.{ready_settings}
use Rattle.texts.specs.Decimals.{decimal}
use Rattle.survey.specs.Forms.{unclosed}
use Rattle.survey.specs.Line.{printed_forms, survey_line}
use Rattle.survey.specs.Grammar.{SurveyInput, OtherOrderInput}
use Rattle.survey.specs.Claims.{Neither}
use Rattle.survey.specs.Reading.{read_input}
use Rattle.survey.proofs.Theorems.{reads_all, other_order_all, refuses_all, reads_no_printed_line}
use Rattle.survey.proofs.Written.{printed_line}
use Rattle.survey.proofs.OneLine.{the_settings_line}
use Rattle.listing.specs.Listing.{listing_of, listing}
use Rattle.program.specs.Program.{file_line, refused_line, cleared_table, survey_text, program_file, line_text, program_text}
use Rattle.program.proofs.Outputs.{refusal_text}
use Rattle.settings.specs.Given.{the_settings}

regrouped : (a b c d e f : List ℕ) → ((a ++ (b ++ (c ++ d))) ++ e) ++ f ≡ a ++ (b ++ (c ++ (d ++ (e ++ f))))
regrouped a b c d e f = simp append_assoc

-- A text that begins with the line that we print begins with the settings' part of it and then has the number of classes.
begins : (letters : List ℕ) (k m : ℕ) (second third : List ℕ)
    → (survey_line (the_settings letters k m) ++ second) ++ third
    ≡ unclosed (printed_forms (the_settings letters k m)) ++ (bytes " (classes " ++ (decimal (class_count (the_settings letters k m)) ++ (bytes "))\n" ++ (second ++ third))))
begins letters k m second third =
    let settings = the_settings letters k m in
    rw (printed_line settings) (regrouped (unclosed (printed_forms settings)) (bytes " (classes ") (decimal (class_count settings)) (bytes "))\n") second third)

module _ {input letters file : List ℕ} {k m : ℕ} (S : SurveyInput input letters k m file) where
  -- What is printed for a survey line and a file.
  pub survey_line_text : line_text (read_input input) ≡ survey_text (the_settings letters k m) (program_file file)
  unfolding line_text
  survey_line_text = rw (reads_all S)

  -- Where no ground applies, it begins with that line, in which the number of classes stands before the bracket that closes it, and LF.
  pub listing_repeats_the_line : length input ≤ 65536 → table_ground (the_settings letters k m) cleared_table (add (program_file file)) ≡ None
      → (part : List ℕ) × ((rest : List ℕ) × ((S.line ≡ part ++ bytes ")")
      × (program_text input ≡ part ++ (bytes " (classes " ++ (decimal (class_count (the_settings letters k m)) ++ (bytes "))\n" ++ rest))))))
  unfolding program_text survey_text listing_of call_ground
  listing_repeats_the_line short taken =
      let room = length cleared_table in
      let passed = ready_settings letters k m room file (first_none (ready_ground (the_settings letters k m) room file) _ taken) in
      let counted = listing (the_settings letters k m) (table_after (the_settings letters k m) cleared_table (add (program_file file))) in
      let numbers = file_numbers (rank_in letters) k (program_file file) in
      let text : program_text input ≡ counted ++ file_line numbers = rw (le-ltb 65536 (length input) short, survey_line_text, taken) in
      (unclosed (printed_forms (the_settings letters k m)), (_, (the_settings_line passed S, text ∙ begins letters k m _ _)))

-- "it precedes 1": nothing is asked of the letters, k, the mirror or the file, but that the input is not too long (14).
pub refuses_another_order : {input : List ℕ} → OtherOrderInput input → length input ≤ 65536 → program_text input ≡ refused_line (19, 0)
refuses_another_order {input} o short = refusal_text input short (other_order_all o)

-- What starts neither with a survey line nor with one in another order is refused 13.
pub refuses_neither : {input : List ℕ} → Neither input → length input ≤ 65536 → program_text input ≡ refused_line (13, 0)
refuses_neither {input} n short = refusal_text input short (refuses_all input n)

-- So is the line that we print, whatever follows it: a listing is no input.
pub refuses_the_printed_line : (letters : List ℕ) (k m : ℕ) (rest : List ℕ) → settings_ground (the_settings letters k m) ≡ None
    → length (survey_line (the_settings letters k m) ++ rest) ≤ 65536 → program_text (survey_line (the_settings letters k m) ++ rest) ≡ refused_line (13, 0)
refuses_the_printed_line letters k m rest passed short =
    refusal_text (survey_line (the_settings letters k m) ++ rest) short (reads_no_printed_line letters k m rest passed)
