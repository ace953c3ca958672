-- The loop of this function: what the lookups so far gave.
use Rattle.packed.proofs.LowLetters.{LookedUp}
use Rattle.packed.proofs.mirror_of_bytes.Given as goal

abbrev pub invariant-loop : goal.invariant-loop
invariant-loop g l = LookedUp l.x l.counter l.mirror l.rest
