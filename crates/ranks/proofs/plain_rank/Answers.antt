-- `ranks::plain_rank` meets its contract.
use Rattle.std.proofs.Common.{arith}
use Rattle.ranks.proofs.RankLoops.{plain-none, plain_next, next_fits}
use Rattle.ranks.proofs.plain_rank.Goals as goal

pub loop-rank-init : goal.loop-rank-init
loop-rank-init c = plain-none _

pub overflow_mul-p : goal.overflow_mul-p
overflow_mul-p c = omega (arith, next_fits c.requires c.loop-rank-test.true c.loop-rank.invariant)

pub overflow_add-p : goal.overflow_add-p
overflow_add-p c = omega (arith, next_fits c.requires c.loop-rank-test.true c.loop-rank.invariant)

pub loop-rank-preserved : goal.loop-rank-preserved
loop-rank-preserved c = plain_next c.requires c.loop-rank-test.true c.loop-rank.invariant
