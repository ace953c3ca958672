-- `TwoBit::ordered` meets its contract: the lower of the two plain ranks is that of the canonical word (TwoRanks).
use Rattle.two_bit.proofs.TwoRanks.{orders}
use Rattle.two_bit.proofs.TwoBit.ordered.Goals as goal

pub returns : goal.returns
returns c = orders _ _ c.requires c.window_mirror-y.ensures c.min-lower.ensures c.max-higher.ensures c.differing_letters.ensures
