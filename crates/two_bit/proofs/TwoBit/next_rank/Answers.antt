-- `TwoBit::next_rank` meets its contract: the sum does not wrap (Rolls).
use Rattle.std.proofs.Common.{arith}
use Rattle.two_bit.proofs.Rolls.{next_fits}
use Rattle.two_bit.proofs.TwoBit.next_rank.Goals as goal

pub overflow_add-result : goal.overflow_add-result
overflow_add-result c = omega (arith, next_fits c.args.self.now.some c.args.self.now.small c.args.x c.requires, c.low_letters.ensures)

pub overflow_mul-result : goal.overflow_mul-result
overflow_mul-result c = omega (arith, overflow_add-result c)
