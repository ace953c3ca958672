-- The loops of this function: what holds at each turn, and what falls.
use Rattle.std.proofs.Common.{◌-◌, length}
use Rattle.batches.proofs.FileLoops.{Changing}
use Rattle.batches.proofs.change_file.Given as goal

abbrev pub invariant-loop-at : goal.invariant-loop-at
invariant-loop-at l =
    Changing l.coder l.file l.initial.mode l.initial.counts l.way l.limit l.counts l.array l.at l.mode l.n l.done

abbrev pub decreases-loop-at : goal.decreases-loop-at
decreases-loop-at l = length l.file - l.at
