-- `batches::carry` meets its contract: the last k - 1 letters are at the array's start, or none where their run ended.
use Rattle.batches.proofs.BatchLaws.{carried}
use Rattle.batches.proofs.carry.Goals as goal

pub returns : goal.returns
returns c = rw c.if-ended.false (carried c.requires.some (c.requires.goes_on c.if-ended.false) c.requires.inside c.copy_within.ensures.after)
