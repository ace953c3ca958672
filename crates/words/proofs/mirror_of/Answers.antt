-- `words::mirror_of` meets its contract: a ground at each check, with the buffer as it was, and else the mirror (MirrorAnswers).
use Rattle.std.proofs.Common.{arith}
use Rattle.settings.proofs.Outcomes.{passed_on}
use Rattle.words.proofs.CallGrounds.{length_right, room_there}
use Rattle.words.proofs.CodeAnswers.{word_within}
use Rattle.words.proofs.MirrorAnswers.{mirror_bad_settings, mirror_bad_length, mirror_into_short, mirror_bad_byte, mirror_written_out}
use Rattle.words.proofs.mirror_of.Goals as goal

pub returns-in_err-st : goal.returns-in_err-st
returns-in_err-st c = rw (passed_on _ _ c.from_residual.ensures.1) (mirror_bad_settings _ _ _ _ _ _ c.in_err-st.ensures)

pub returns-in_err-check_length : goal.returns-in_err-check_length
returns-in_err-check_length c =
    rw (passed_on _ _ c.from_residual-in_err-check_length.ensures.1)
    (mirror_bad_length _ _ _ _ _ _ c.in_ok-st.ensures _ c.in_err-check_length.ensures)

pub returns-in_err-check_room : goal.returns-in_err-check_room
returns-in_err-check_room c =
    rw (passed_on _ _ c.from_residual-in_err-check_room.ensures.1)
    (mirror_into_short _ _ _ _ _ _ c.in_ok-st.ensures c.in_ok-check_length.ensures _ c.in_err-check_room.ensures)

pub returns-in_err-check_letters : goal.returns-in_err-check_letters
returns-in_err-check_letters c =
    rw (passed_on _ _ c.from_residual-in_err-check_letters.ensures.1)
    (mirror_bad_byte _ _ _ _ _ _ c.in_ok-st.ensures c.in_ok-check_length.ensures c.in_ok-check_room.ensures _ c.in_err-check_letters.ensures)

pub write_mirror-requires : goal.write_mirror-requires
write_mirror-requires c =
    let a = c.args in (
      word_within a.settings.now.letters.now a.settings.now.k a.settings.now.mirror a.word.now _ c.in_ok-st.ensures c.in_ok-check_length.ensures,
      omega (arith, length_right a.settings.now.k a.word.now c.in_ok-check_length.ensures, room_there _ _ c.in_ok-check_room.ensures),
    )

pub returns : goal.returns
returns c =
    mirror_written_out _ _ _ _ _ _ c.in_ok-st.ensures c.in_ok-check_length.ensures c.in_ok-check_room.ensures c.in_ok-check_letters.ensures _
    c.write_mirror.ensures
