-- `two_bit::low_letters` meets its contract. A mask of 2i ones is a remainder by 4^i (TwoRanks).
use native.Mathlib.Nat.{one-le-pow}
use Rattle.std.proofs.Common.{arith}
use Rattle.two_bit.proofs.TwoRanks.{low_is}
use Rattle.two_bit.proofs.low_letters.Goals as goal

pub overflow_sub-result : goal.overflow_sub-result
overflow_sub-result c = omega (arith, c.power_of_four.ensures, one-le-pow c.args.i 4 (omega arith))

pub returns : goal.returns
returns c = let a = c.args in low_is a.a a.i _ c.power_of_four.ensures
