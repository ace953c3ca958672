-- `TwoBit::pair_code` meets its contract. What is added up is the code, which is below 2^62 (TwoRanks).
use Rattle.std.proofs.Common.{arith}
use Rattle.two_bit.proofs.TwoRanks.{pair_fits, two_fits, pair_in, pair_lt, ones_fit, pair_is}
use Rattle.two_bit.proofs.TwoBit.pair_code.Goals as goal

pub pair_rank_of_four-pair-requires-clause-l_lt_r : goal.pair_rank_of_four-pair-requires-clause-l_lt_r
pair_rank_of_four-pair-requires-clause-l_lt_r c = rw (c.without_low-l.ensures, c.without_low-r.ensures) (pair_lt c.args.self.now.small c.requires.word c.requires.differs)

pub without_low-one-requires : goal.without_low-one-requires
without_low-one-requires c = omega (arith, pair_in c.args.self.now.small c.requires.word c.requires.differs, c.args.self.now.small)

pub overflow_sub-inner : goal.overflow_sub-inner
overflow_sub-inner c =
    omega (arith, ones_fit c.args.self.now.small c.requires.word c.requires.differs c.power_of_four-low.ensures c.power_of_four.ensures c.without_low-one.ensures)

pub overflow_sub-rest : goal.overflow_sub-rest
overflow_sub-rest c =
    omega (arith, ones_fit c.args.self.now.small c.requires.word c.requires.differs c.power_of_four-low.ensures c.power_of_four.ensures c.without_low-one.ensures)

pub overflow_sub-result : goal.overflow_sub-result
overflow_sub-result c =
    omega (arith, ones_fit c.args.self.now.small c.requires.word c.requires.differs c.power_of_four-low.ensures c.power_of_four.ensures c.without_low-one.ensures)

pub returns : goal.returns
returns c =
    pair_is c.args.self.now.small c.requires.word c.requires.differs c.power_of_four-low.ensures c.power_of_four.ensures c.without_low-one.ensures
    c.args.self.now.count _ _ _ c.without_low-l.ensures c.without_low-r.ensures c.pair_rank_of_four-pair.ensures

-- The sum, of which each of these is a part.
pub overflow_add-result-4 : goal.overflow_add-result-4
overflow_add-result-4 c = omega (arith, returns c, two_fits c.args.self.now.small c.requires.word)

pub overflow_add-result-3 : goal.overflow_add-result-3
overflow_add-result-3 c = omega (arith, overflow_add-result-4 c)

pub overflow_add-result-2 : goal.overflow_add-result-2
overflow_add-result-2 c = omega (arith, overflow_add-result-4 c)

pub overflow_mul-result : goal.overflow_mul-result
overflow_mul-result c = omega (arith, overflow_add-result-4 c)

pub overflow_add-result : goal.overflow_add-result
overflow_add-result c = omega (arith, pair_fits c.pair_rank_of_four-pair.result _ _ c.power_of_four-low.ensures, overflow_mul-result c)
