-- The loop of this function: the numbers of the windows before the one at j are right, and the run that ends before its last byte is known.
use Rattle.std.proofs.Common.{◌≡◌, length}
use Rattle.sequence.proofs.Blanks.{Blanking}
use Rattle.sequence.proofs.bytes.blank.Given as goal

abbrev pub invariant-loop-j : goal.invariant-loop-j
invariant-loop-j l = Blanking l.table l.k l.bytes l.initial.out l.out l.run l.j × (length l.out ≡ length l.initial.out)
