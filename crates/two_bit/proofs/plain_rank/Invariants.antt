-- The loop of this function: the plain rank of the letters so far.
use Rattle.std.proofs.Common.{◌≡◌, take}
use Rattle.encoding.specs.Words.{plain}
use Rattle.two_bit.proofs.plain_rank.Given as goal

abbrev pub invariant-loop-rank : goal.invariant-loop-rank
invariant-loop-rank l = l.x ≡ plain 4 (take l.rank-index l.letters)
