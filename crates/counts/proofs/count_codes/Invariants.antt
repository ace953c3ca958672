-- The loop of this function: what holds at each turn.
use Rattle.counts.proofs.CountLoops.{CountingOn}
use Rattle.counts.proofs.count_codes.Given as goal

abbrev pub invariant-loop-q : goal.invariant-loop-q
invariant-loop-q l = CountingOn l.initial.counts l.codes l.counts l.q-index
