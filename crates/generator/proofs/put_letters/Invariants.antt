-- The loop of this function: what holds at each turn, and what falls.
use Rattle.generator.proofs.Drawing.{Drawing}
use Rattle.generator.proofs.put_letters.Given as goal

abbrev pub invariant-loop-left : goal.invariant-loop-left
invariant-loop-left l = Drawing l.initial.w l.w l.letters l.each l.start 0 l.left l.state

abbrev pub decreases-loop-left : goal.decreases-loop-left
decreases-loop-left l = l.left
