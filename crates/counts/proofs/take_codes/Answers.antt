-- `counts::take_codes` meets its contract. The invariant, `TakingOn`: so many codes were taken, and the counts allowed it.
use Rattle.std.proofs.Common.{refl, arith}
use Rattle.tally_book.specs.Table.{change, one_less}
use Rattle.counts.proofs.Taking.{taking_none, takes_on}
use Rattle.counts.proofs.take_codes.Goals as goal

pub loop-i-init : goal.loop-i-init
loop-i-init c = taking_none _ _ c.requires

pub loop-i-preserved : goal.loop-i-preserved
unfolding change one_less
loop-i-preserved c =
    takes_on c.loop-i.invariant c.loop-i-test.true _ (rw (← c.place-at.ensures) (omega arith)) (rw c.place-at.ensures refl)
