-- Copies with T for U (document 02, K2) in the program: for a survey line and a file, and for the same line and a copy of the file, it prints the same, where
-- the line's letters have T and no U (`same_output`). From the laws of copies in the crates files and tally_book, and from what is proved of reading a survey line.
use Rattle.std.proofs.Common.{◌≡◌, refl, sym, ap, ◌∙◌, true, List, ◌++◌, append_assoc, ℕ, length, length-append, eqb}
use mathlib.Core.List.Forall₂
use mathlib.Core.List.{append_cancel_right}
use Rattle.lines.proofs.Mapped.{first_mapped}
use Rattle.settings.specs.Settings.{rank_in, reads_u_as_t}
use Rattle.settings.specs.Copies.{t_for_u, CopyWithT}
use Rattle.settings.proofs.Copies.{same_at, same_of_copies, same_length}
use Rattle.settings.specs.Grounds.{Outcome, given, refused, outcome}
use Rattle.fasta.specs.declared.Numbers.{Numbers}
use Rattle.files.specs.File.{File, file_numbers}
use Rattle.files.specs.Copies.{FileCopy}
use Rattle.files.proofs.Copies.{same_file_fault, same_file_numbers}
use Rattle.tally_book.specs.Table.{call_ground, add, table_ground}
use Rattle.tally_book.proofs.Copies.{same_windows_of_file, same_ready_ground}
use Rattle.survey.specs.Grammar.{LineEnd, SurveyInput}
use Rattle.survey.specs.Grammar.LineEnd.{lf, crlf, with_the_input}
use Rattle.survey.proofs.Theorems.{another_end}
use Rattle.program.specs.Program.{cleared_table, answer_text, survey_text, kind_by_first_byte, program_file, program_text}
use Rattle.program.proofs.SurveyLines.{survey_line_text}
use Rattle.settings.specs.Given.{the_settings}

-- ---- a file

-- The copy of a file is of the kind that the file is taken for: neither byte is @.
file_copy : {bytes copy : List ℕ} → CopyWithT bytes copy → FileCopy (program_file bytes) (program_file copy)
unfolding kind_by_first_byte
file_copy C =
    record {
      kind = sym (same_of_copies kind_by_first_byte (λ l. rw (first_mapped t_for_u 64 (same_at (λ (b : ℕ). eqb b 64) refl refl) l)) C);
      bytes = C;
    }

module _ (letters : List ℕ) (reads : reads_u_as_t letters ≡ true) (k m : ℕ) where
  -- The same text at the same answer, since the places counted are the same.
  same_answer_text : {file copy : File} → FileCopy file copy → (answer : Outcome Numbers) → answer_text (the_settings letters k m) file answer ≡ answer_text (the_settings letters k m) copy answer
  same_answer_text D (given n) = rw (same_windows_of_file letters k D reads)
  same_answer_text D (refused g) = refl

  same_survey_text : {bytes copy : List ℕ} → CopyWithT bytes copy
      → survey_text (the_settings letters k m) (program_file bytes) ≡ survey_text (the_settings letters k m) (program_file copy)
  unfolding survey_text call_ground
  same_survey_text {bytes} C =
      let D = file_copy C in
      same_answer_text D (outcome (table_ground (the_settings letters k m) cleared_table (add (program_file bytes))) (file_numbers (rank_in letters) k (program_file bytes)))
      ∙ rw (same_windows_of_file letters k D reads, same_ready_ground letters k D m (length cleared_table), same_file_fault D, same_file_numbers D letters reads k)

-- ---- the whole input

line_end_copied : {end file copy : List ℕ} → CopyWithT file copy → LineEnd end file → LineEnd end copy
line_end_copied C lf = lf
line_end_copied C crlf = crlf
line_end_copied Forall₂.nil with_the_input = with_the_input

module _ (letters : List ℕ) (k m : ℕ) where
  -- With the copy in place of the file the input is the same survey line and then the copy.
  survey_copied : (line : List ℕ) {file copy : List ℕ} → CopyWithT file copy → SurveyInput (line ++ file) letters k m file
      → SurveyInput (line ++ copy) letters k m copy
  survey_copied line {file} {copy} C S =
      let same : line ≡ S.line ++ S.end = append_cancel_right line (S.line ++ S.end) file (S.whole ∙ sym (append_assoc S.line S.end file)) in
      another_end S (line_end_copied C S.ends) (ap (λ (l : List ℕ). l ++ copy) same ∙ append_assoc S.line S.end copy)

  pub same_output : reads_u_as_t letters ≡ true → (line : List ℕ) {file copy : List ℕ} → CopyWithT file copy → SurveyInput (line ++ file) letters k m file
      → program_text (line ++ file) ≡ program_text (line ++ copy)
  unfolding program_text
  same_output reads line {file} {copy} C S =
      let lengths : length (line ++ file) ≡ length (line ++ copy) = length-append line file ∙ rw (same_length C) (sym (length-append line copy)) in
      rw (lengths, survey_line_text S, survey_line_text (survey_copied line C S), same_survey_text letters reads k m C)
