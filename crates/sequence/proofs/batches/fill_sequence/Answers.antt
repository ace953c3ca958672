-- `sequence::batches::fill_sequence` meets its contract: the numbers of one batch after those of the one before (Pieces).
use Rattle.std.proofs.Common.{arith, length, ◌+◌, ◌≤◌}
use Rattle.sequence.proofs.Pieces.{Batch, batch_of, later_less, batch_on, batches_none, batches_all}
use Rattle.settings.proofs.Limits.{k_at_most}
use Rattle.sequence.proofs.batches.fill_sequence.Goals as goal

pub loop-at-init : goal.loop-at-init
loop-at-init c = (batches_none _ c.args.coder.now.some c.args.sequence.now _ c.requires, omega arith)

pub overflow_add-at : goal.overflow_add-at
overflow_add-at c = omega (arith, k_at_most c.args.coder.now.limits, c.loop-at.invariant.1, c.well_formed)

pub overflow_sub-at : goal.overflow_sub-at
overflow_sub-at c =
    let a = c.args in
    let more : c.loop-at.at + a.coder.now.k ≤ length a.sequence.now = omega (arith, c.loop-at-test.true) in
    let batch : Batch a.coder.now.k (length a.sequence.now) c.loop-at.at c.min-end.result = batch_of (k_at_most a.coder.now.limits) more c.min-end.ensures in
    omega (arith, batch.window)

pub loop-at-smaller : goal.loop-at-smaller
loop-at-smaller c =
    let a = c.args in
    let more : c.loop-at.at + a.coder.now.k ≤ length a.sequence.now = omega (arith, c.loop-at-test.true) in
    let batch : Batch a.coder.now.k (length a.sequence.now) c.loop-at.at c.min-end.result = batch_of (k_at_most a.coder.now.limits) more c.min-end.ensures in
    later_less (omega (arith, batch.window, a.coder.now.some)) (omega (arith, batch.inside, a.coder.now.some))

pub loop-at-preserved : goal.loop-at-preserved
loop-at-preserved c =
    let a = c.args in
    let more : c.loop-at.at + a.coder.now.k ≤ length a.sequence.now = omega (arith, c.loop-at-test.true) in
    let batch : Batch a.coder.now.k (length a.sequence.now) c.loop-at.at c.min-end.result = batch_of (k_at_most a.coder.now.limits) more c.min-end.ensures in
    (batch_on _ a.coder.now.some a.sequence.now c.loop-at.invariant.0 batch _ c.fill_batch.ensures (omega arith), omega (arith, batch.inside, a.coder.now.some))

pub returns : goal.returns
returns c = batches_all _ c.args.coder.now.some c.args.sequence.now c.loop-at.invariant.0 (omega (arith, c.loop-at-test.false))
