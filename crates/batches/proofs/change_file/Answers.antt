-- `batches::change_file` meets its contract. The invariant, `Changing`: so many codes of the file were counted or taken away, the counts allowed it,
-- and the rest of the file, behind the letters kept in the array, gives the others.
use Rattle.std.proofs.Common.{◌∙◌, arith}
use Rattle.batches.proofs.Walks.{short_words, long_enough, batch_count}
use Rattle.batches.proofs.FileLoops.{changing_none, changed_all, batch_room, changes_stop, changes_on}
use Rattle.batches.proofs.change_file.Goals as goal

pub loop-at-init : goal.loop-at-init
loop-at-init c = changing_none c.args.coder.now _ _ _ _ _ _ c.requires.fits

pub gather-g-requires-clause-room : goal.gather-g-requires-clause-room
gather-g-requires-clause-room c = omega (arith, c.loop-at.invariant.walk.few, c.loop-at-test.array_long, short_words c.args.coder.now)

pub change_batch-r-requires-clause-fits : goal.change_batch-r-requires-clause-fits
change_batch-r-requires-clause-fits c =
    batch_room c.args.coder.now c.loop-at.invariant c.gather-g.ensures (c.gather-g.auto.array ∙ c.loop-at-test.array_long)

pub returns-then-r-window_count : goal.returns-then-r-window_count
returns-then-r-window_count c =
    let size = c.gather-g.auto.array ∙ c.loop-at-test.array_long in
    changes_stop c.args.coder.now c.loop-at.invariant c.gather-g.ensures size c.change_batch-r.ensures
    (omega (arith, c.if-r-window_count.true, c.window_count.ensures, batch_count c.args.coder.now c.loop-at.invariant.walk c.gather-g.ensures size))

pub carry-n-requires-clause-goes_on : goal.carry-n-requires-clause-goes_on
carry-n-requires-clause-goes_on c =
    long_enough c.args.coder.now c.loop-at.invariant.walk c.gather-g.ensures (c.gather-g.auto.array ∙ c.loop-at-test.array_long)

pub loop-at-preserved : goal.loop-at-preserved
loop-at-preserved c =
    let size = c.gather-g.auto.array ∙ c.loop-at-test.array_long in
    changes_on c.args.coder.now c.loop-at.invariant c.gather-g.ensures size c.change_batch-r.ensures
    (omega (arith, c.if-r-window_count.false, c.window_count.ensures, batch_count c.args.coder.now c.loop-at.invariant.walk c.gather-g.ensures size))
    c.carry-n.ensures

pub returns : goal.returns
returns c = changed_all c.args.coder.now c.loop-at.invariant c.loop-at-test.false
