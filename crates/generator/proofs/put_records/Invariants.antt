-- The loop of this function: what holds at each turn.
use Rattle.generator.proofs.Drawing.{Recording}
use Rattle.generator.proofs.put_records.Given as goal

abbrev pub invariant-loop-i : goal.invariant-loop-i
invariant-loop-i l = Recording l.initial.w l.w l.letters l.each l.records l.start l.i l.state
