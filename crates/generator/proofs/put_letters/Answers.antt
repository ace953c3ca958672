-- `generator::put_letters` meets its contract. The invariant, `Drawing`: which letters are still to be written.
use Rattle.std.proofs.Common.{refl, arith}
use Rattle.generator.proofs.Drawing.{drawing_all, whole_line_drawn, last_state, all_drawn}
use Rattle.generator.proofs.put_letters.Goals as goal

pub loop-left-init : goal.loop-left-init
loop-left-init c = drawing_all _ _ _ _ _ refl

pub loop-left-preserved : goal.loop-left-preserved
loop-left-preserved c =
    let p = c.put_line-state.ensures in
    whole_line_drawn c.loop-left.invariant c.min-n.result c.loop-left-test.true c.min-n.ensures refl refl p.goes_on p.line c.put_text.ensures

pub returns-clause-lines : goal.returns-clause-lines
returns-clause-lines c = all_drawn c.loop-left.invariant (omega (arith, c.loop-left-test.false))

pub returns-clause-goes_on : goal.returns-clause-goes_on
returns-clause-goes_on c = last_state c.loop-left.invariant (omega (arith, c.loop-left-test.false))
