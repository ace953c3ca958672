-- `two_bit::without_low` meets its contract. A shift by 2i bits is a quotient by 4^i (TwoRanks).
use Rattle.two_bit.proofs.TwoRanks.{four_div}
use Rattle.two_bit.proofs.without_low.Goals as goal

pub returns : goal.returns
returns c = four_div c.args.a c.args.i
