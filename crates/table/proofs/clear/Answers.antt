-- `table::clear` meets its contract: a refusal of the settings' check stands, then one for the table's room, and else the zeros.
use Rattle.std.proofs.Common.{rules}
use Rattle.settings.proofs.Outcomes.{passed_on}
use Rattle.table.proofs.CallGrounds.{clearing_refused, clearing_short, cleared}
use Rattle.table.proofs.clear.Goals as goal

pub returns-in_err-st : goal.returns-in_err-st
returns-in_err-st c = rw (passed_on _ _ c.from_residual.ensures.1) (clearing_refused _ _ _ _ _ c.in_err-st.ensures)

pub returns-in_err-n : goal.returns-in_err-n
returns-in_err-n c =
    rw (passed_on _ _ c.from_residual-in_err-n.ensures.1) (clearing_short _ _ _ _ c.in_ok-st.ensures _ c.in_err-n.ensures)

pub returns : goal.returns
returns c = cleared _ _ _ _ c.in_ok-st.ensures c.in_ok-n.ensures (search rules)
