-- The loop of this function: what holds at each turn.
use Rattle.counts.proofs.Taking.{TakingOn}
use Rattle.counts.proofs.take_codes.Given as goal

abbrev pub invariant-loop-i : goal.invariant-loop-i
invariant-loop-i l = TakingOn l.initial.counts l.codes l.counts l.i
