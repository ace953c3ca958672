-- The loop of this function: what holds at each turn, and what falls.
use Rattle.std.proofs.Common.{◌-◌, length, take}
use Rattle.batches.proofs.Gathering.{Gathering}
use Rattle.batches.proofs.gather.Given as goal

abbrev pub invariant-loop-at : goal.invariant-loop-at
invariant-loop-at l =
    Gathering l.table (take l.initial.letters l.initial.array) l.file l.initial.mode l.initial.at l.initial.letters l.array l.at l.mode l.letters

abbrev pub decreases-loop-at : goal.decreases-loop-at
decreases-loop-at l = length l.file - l.at
