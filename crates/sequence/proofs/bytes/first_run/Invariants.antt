-- The loop of this function: the run at the end of the bytes so far.
use Rattle.sequence.specs.Needs.{Run}
use Rattle.sequence.proofs.bytes.first_run.Given as goal

abbrev pub invariant-loop-b : goal.invariant-loop-b
invariant-loop-b l = Run l.table l.bytes l.b-index l.run
