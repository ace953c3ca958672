-- The loop of this function: the places before the present one have their letters.
use Rattle.std.proofs.Common.{length}
use Rattle.generator.proofs.Drawing.{DrawnTo}
use Rattle.generator.proofs.draw.Given as goal

abbrev pub invariant-loop-place : goal.invariant-loop-place
invariant-loop-place l = DrawnTo l.letters (length l.initial.line) l.line l.place-index l.start l.state
