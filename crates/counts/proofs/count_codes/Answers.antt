-- `counts::count_codes` meets its contract. The invariant, `CountingOn`: what is left of the codes gives the counts at the end.
use Rattle.std.proofs.Common.{refl, arith}
use Rattle.tally_book.specs.Table.{change, one_more}
use Rattle.counts.proofs.CountLoops.{counting_on_none, can_count, counts_on, counted_all}
use Rattle.counts.proofs.count_codes.Goals as goal

pub loop-q-init : goal.loop-q-init
loop-q-init c = counting_on_none _ _ c.requires.fits c.requires.each

pub overflow_add-counts : goal.overflow_add-counts
overflow_add-counts c = rw c.place.ensures (omega (arith, can_count c.loop-q.invariant c.loop-q-test.true))

pub loop-q-preserved : goal.loop-q-preserved
unfolding change one_more
loop-q-preserved c = counts_on c.loop-q.invariant _ c.loop-q-test.true (rw c.place.ensures refl)

pub returns : goal.returns
returns c = counted_all c.loop-q.invariant c.loop-q-test.false
