-- p is the plain rank of the letters passed.
use Rattle.std.proofs.Common.{◌≡◌, take}
use Rattle.encoding.specs.Words.{plain}
use Rattle.ranks.proofs.plain_rank.Given as goal

abbrev pub invariant-loop-rank : goal.invariant-loop-rank
invariant-loop-rank l = l.p ≡ plain l.s (take l.rank-index l.w)
