-- `words::word_of` meets its contract: a ground at each check, with the buffer as it was, and else the word (ReadAnswers).
use Rattle.settings.proofs.Outcomes.{passed_on}
use Rattle.settings.proofs.SettingsGrounds.{known}
use Rattle.words.proofs.CallGrounds.{room_there}
use Rattle.words.proofs.ReadAnswers.{read_into_short, read_bad_code, good_code, read_bad_settings, word_read}
use Rattle.words.proofs.word_of.Goals as goal

pub returns-in_err-st : goal.returns-in_err-st
returns-in_err-st c = rw (passed_on _ _ c.from_residual.ensures.1) (read_bad_settings _ _ _ _ _ _ c.in_err-st.ensures)

pub returns-in_err-check_room : goal.returns-in_err-check_room
returns-in_err-check_room c =
    rw (passed_on _ _ c.from_residual-in_err-check_room.ensures.1) (read_into_short _ _ _ _ _ _ c.in_ok-st.ensures _ c.in_err-check_room.ensures)

pub returns-then-q-st : goal.returns-then-q-st
returns-then-q-st c = read_bad_code _ _ _ _ _ _ c.in_ok-st.ensures c.in_ok-check_room.ensures c.if-q-st.true

pub write_word-requires : goal.write_word-requires
write_word-requires c =
    let a = c.args in (
      (known a.settings.now.letters.now a.settings.now.k a.settings.now.mirror _ c.in_ok-st.ensures).within,
      good_code a.settings.now.letters.now a.settings.now.k a.settings.now.mirror a.q.0 a.out.now _ c.in_ok-st.ensures c.if-q-st.false,
      room_there _ _ c.in_ok-check_room.ensures,
    )

pub returns : goal.returns
returns c = word_read _ _ _ _ _ _ c.in_ok-st.ensures c.in_ok-check_room.ensures c.if-q-st.false _ c.write_word.ensures
