-- `codes::to_code::differing_value` meets its contract. Its bounds are those of the rank of a pair; the value is shown in DigitValues.
use Rattle.std.proofs.Common.{arith}
use Rattle.codes.proofs.DigitValues.{high_small, high_is, differing_small}
use Rattle.codes.proofs.to_code.differing_value.Goals as goal

pub overflow_add-high-2 : goal.overflow_add-high-2
overflow_add-high-2 c =
    omega (arith, high_is c.args.s c.pair_rank-rank.result, high_small _ _ _ _ c.requires _ c.pair_rank-rank.ensures)

pub overflow_mul-high : goal.overflow_mul-high
overflow_mul-high c = omega (arith, overflow_add-high-2 c)

pub overflow_mul-result : goal.overflow_mul-result
overflow_mul-result c =
    omega (arith, differing_small _ _ _ _ c.requires _ c.pair_rank-rank.ensures _ _ c.power.ensures c.plain_rank-inner.ensures)

pub overflow_add-result : goal.overflow_add-result
overflow_add-result c =
    omega (arith, differing_small _ _ _ _ c.requires _ c.pair_rank-rank.ensures _ _ c.power.ensures c.plain_rank-inner.ensures)
