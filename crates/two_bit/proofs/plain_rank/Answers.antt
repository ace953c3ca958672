-- `two_bit::plain_rank` meets its contract: one letter more at each turn (Rolls).
use Rattle.std.proofs.Common.{arith}
use Rattle.two_bit.proofs.Rolls.{first_none, first_more, first_fits, first_all}
use Rattle.two_bit.proofs.plain_rank.Goals as goal

pub loop-rank-init : goal.loop-rank-init
loop-rank-init c = first_none c.args.letters.now

pub overflow_add-x : goal.overflow_add-x
overflow_add-x c = omega (arith, first_fits _ c.requires.ranks c.requires.few c.loop-rank.invariant c.loop-rank-test.true)

pub overflow_mul-x : goal.overflow_mul-x
overflow_mul-x c = omega (arith, first_fits _ c.requires.ranks c.requires.few c.loop-rank.invariant c.loop-rank-test.true)

pub loop-rank-preserved : goal.loop-rank-preserved
loop-rank-preserved c = first_more _ c.requires.ranks c.requires.few c.loop-rank.invariant c.loop-rank-test.true

pub returns : goal.returns
returns c = first_all _ c.loop-rank.invariant c.loop-rank-test.false
