-- `table::ready` meets its contract: a ground at each test, and else the settings.
use Rattle.std.proofs.Common.{◌∙◌, arith}
use Rattle.settings.proofs.Outcomes.{passed_on}
use Rattle.table.proofs.CallGrounds.{ready_bad, ready_long, ready_short, ready_given}
use Rattle.table.proofs.ready.Goals as goal

pub returns-in_err-st : goal.returns-in_err-st
returns-in_err-st c = passed_on _ _ c.from_residual.ensures.1 ∙ ready_bad _ _ _ _ _ _ c.in_err-st.ensures

pub returns-then-file-gt-MOST_BYTES : goal.returns-then-file-gt-MOST_BYTES
returns-then-file-gt-MOST_BYTES c = ready_long _ _ _ _ _ c.in_ok-st.ensures (omega arith)

pub returns-in_err-room_for : goal.returns-in_err-room_for
returns-in_err-room_for c =
    passed_on _ _ c.from_residual-in_err-room_for.ensures.1 ∙ ready_short _ _ _ _ _ c.in_ok-st.ensures (omega arith) _ c.in_err-room_for.ensures

pub returns : goal.returns
returns c = ready_given _ _ _ _ _ c.in_ok-st.ensures (omega arith) c.in_ok-room_for.ensures
