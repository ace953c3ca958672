-- The pair is l more than that of what is left of the rank. The letters above l grow fewer.
use Rattle.std.proofs.Common.{◌-◌}
use Rattle.codes.proofs.ReadSteps.{PairFrom}
use Rattle.codes.proofs.to_word.pair_of.Given as goal

abbrev pub invariant-loop-l : goal.invariant-loop-l
invariant-loop-l l = PairFrom l.s l.rank l.l l.left

abbrev pub decreases-loop-l : goal.decreases-loop-l
decreases-loop-l l = l.s - l.l
