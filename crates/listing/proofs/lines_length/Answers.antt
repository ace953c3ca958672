-- `listing::lines_length` meets its contract: each count adds the length of its line.
use Rattle.std.proofs.Common.{arith, get_or}
use Rattle.laws.proofs.Sums.{sum_step, sum_end}
use Rattle.listing.proofs.Lengths.{lines-add-up, line_short}
use Rattle.listing.proofs.lines_length.Goals as goal

pub overflow_add-sum : goal.overflow_add-sum
overflow_add-sum c =
    let counts = c.args.counts.now in
    let short = line_short c.args.k (get_or counts c.loop-n.n-index 0) c.requires.0 (omega (arith, c.type_inv.counts c.loop-n.n-index)) in
    omega (arith, c.line_length-sum.ensures, short)

pub loop-n-preserved : goal.loop-n-preserved
loop-n-preserved c =
    let counts = c.args.counts.now in
    let short = line_short c.args.k (get_or counts c.loop-n.n-index 0) c.requires.0 (omega (arith, c.type_inv.counts c.loop-n.n-index)) in
    let step = sum_step (lines-add-up c.args.k) counts c.loop-n.n-index c.loop-n-test.true in
    (omega (arith, c.loop-n.invariant.0, c.line_length-sum.ensures, step), omega (arith, c.loop-n.invariant.1, c.line_length-sum.ensures, short))

pub returns : goal.returns
returns c = omega (arith, c.loop-n.invariant.0, sum_end (lines-add-up c.args.k) c.args.counts.now c.loop-n.n-index c.loop-n-test.false)
