-- `two_bit::power_of_four` meets its contract. A shift by 2i bits is a product by 4^i (TwoRanks).
use Rattle.two_bit.proofs.TwoRanks.{four_shifted}
use Rattle.two_bit.proofs.power_of_four.Goals as goal

pub returns : goal.returns
returns c = four_shifted c.args.i c.requires
