-- `words::code_of` meets its contract: a ground at each check, and else the code (CodeAnswers).
use Rattle.std.proofs.Common.{◌∙◌}
use Rattle.words.proofs.CodeAnswers.{coding_passed_on, bad_settings, bad_length, word_within, bad_byte, coded_word}
use Rattle.words.proofs.code_of.Goals as goal

pub returns-in_err-st : goal.returns-in_err-st
returns-in_err-st c = coding_passed_on _ _ c.from_residual.ensures.1 ∙ bad_settings _ _ _ _ _ c.in_err-st.ensures

pub returns-in_err-check_length : goal.returns-in_err-check_length
returns-in_err-check_length c =
    coding_passed_on _ _ c.from_residual-in_err-check_length.ensures.1 ∙ bad_length _ _ _ _ _ c.in_ok-st.ensures _ c.in_err-check_length.ensures

pub returns-in_err-check_letters : goal.returns-in_err-check_letters
returns-in_err-check_letters c =
    coding_passed_on _ _ c.from_residual-in_err-check_letters.ensures.1
    ∙ bad_byte _ _ _ _ _ c.in_ok-st.ensures c.in_ok-check_length.ensures _ c.in_err-check_letters.ensures

pub word_code-requires : goal.word_code-requires
word_code-requires c =
    word_within c.args.settings.now.letters.now c.args.settings.now.k c.args.settings.now.mirror c.args.word.now _ c.in_ok-st.ensures c.in_ok-check_length.ensures

pub returns : goal.returns
returns c = coded_word _ _ _ _ _ c.in_ok-st.ensures c.in_ok-check_length.ensures c.in_ok-check_letters.ensures _ c.word_code.ensures
