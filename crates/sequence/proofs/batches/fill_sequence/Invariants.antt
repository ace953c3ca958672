-- The loop of this function: the numbers of the windows before the one at `at` are written; fewer letters are left.
use Rattle.std.proofs.Common.{◌+◌, ◌-◌, ◌≤◌, length}
use Rattle.sequence.specs.Needs.{codes_by}
use Rattle.laws.proofs.Buffers.{Written}
use Rattle.sequence.proofs.batches.fill_sequence.Given as goal

abbrev pub invariant-loop-at : goal.invariant-loop-at
invariant-loop-at l = Written (codes_by l.coder l.sequence) l.initial.list l.at l.list × (l.at ≤ length l.sequence)

abbrev pub decreases-loop-at : goal.decreases-loop-at
decreases-loop-at l = length l.sequence + 1 - l.at
