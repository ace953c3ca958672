-- `generator::load_length` meets its contract. The invariant: the length of all records is the sum so far and the length of those that are left.
use Rattle.std.proofs.Common.{◌+◌, arith}
use Rattle.texts.proofs.Decimals.{decimal-length}
use Rattle.generator.specs.Needs.{record_length}
use Rattle.generator.proofs.Lengths.{next-length, no_length}
use Rattle.generator.proofs.load_length.Goals as goal

pub overflow_add-sum : goal.overflow_add-sum
overflow_add-sum c = omega (arith, c.div_ceil.ensures, c.digit_count.ensures, decimal-length 19 (c.loop-i.i + 1) (omega arith))

pub overflow_add-sum-in-loop-i : goal.overflow_add-sum-in-loop-i
overflow_add-sum-in-loop-i c =
    omega (arith, c.div_ceil.ensures, c.digit_count.ensures, decimal-length 19 (c.loop-i.i + 1) (omega arith), c.if-sum-gt-MOST_BYTES.false)

pub loop-i-preserved : goal.loop-i-preserved
unfolding record_length
loop-i-preserved c =
    let a = c.args in
    omega (arith, c.loop-i.invariant, next-length a.each c.loop-i.i a.records c.loop-i-test.true, c.div_ceil.ensures, c.digit_count.ensures)

pub returns : goal.returns
returns c =
    let a = c.args in
    omega (arith, c.loop-i.invariant, no_length a.each c.loop-i.i a.records c.loop-i-test.false)
