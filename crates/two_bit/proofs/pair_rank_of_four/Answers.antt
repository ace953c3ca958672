-- `two_bit::pair_rank_of_four` meets its contract: a case for each first letter (TwoRanks).
use Rattle.two_bit.proofs.TwoRanks.{pair_rank_four}
use Rattle.two_bit.proofs.pair_rank_of_four.Goals as goal

pub returns : goal.returns
returns c = pair_rank_four c.args.l c.args.r c.requires.l_lt_r c.requires.r_bound
