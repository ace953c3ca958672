-- `two_bit::differing_letters` meets its contract. The highest bit in which two numbers differ tells the highest letter (TwoRanks).
use Rattle.std.proofs.Common.{refl, arith, bit_xor}
use lib.Bits.{xor_lt}
use lib.Count.{count_leading_zeros, leading_le}
use Rattle.two_bit.proofs.TwoRanks.{differ_at}
use Rattle.two_bit.proofs.differing_letters.Goals as goal

pub overflow_cast-z : goal.overflow_cast-z
overflow_cast-z c = omega (arith, leading_le 64 (bit_xor c.args.a c.args.b))

pub overflow_sub-result : goal.overflow_sub-result
overflow_sub-result c = omega (arith, leading_le 64 (bit_xor c.args.a c.args.b))

pub returns : goal.returns
returns c =
    let a = c.args.a in
    let b = c.args.b in
    differ_at a b (count_leading_zeros 64 (bit_xor a b)) (xor_lt 64 a b c.ranges.a.fits c.ranges.b.fits) refl
