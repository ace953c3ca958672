-- `listing::put_counts` meets its contract: each class leaves its own line less to write.
use Rattle.texts.proofs.Writing.{lacks_all, lacks_less, lacks_none}
use Rattle.listing.proofs.Lines.{lines_first, no_lines}
use Rattle.listing.proofs.put_counts.Goals as goal

pub loop-q-init : goal.loop-q-init
loop-q-init c = lacks_all _ _

pub loop-q-preserved : goal.loop-q-preserved
loop-q-preserved c = lacks_less _ (rw (lines_first _ c.args.counts.now c.loop-q.q c.loop-q-test.true) at c.loop-q.invariant) c.put_class.ensures

pub returns : goal.returns
returns c = lacks_none (rw (no_lines _ c.args.counts.now c.loop-q.q c.loop-q-test.false) at c.loop-q.invariant)
