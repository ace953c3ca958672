-- `kernels::power_table` meets its contract: the next power fits, and its place is in the table (PowerTables).
use Rattle.std.proofs.Common.{arith, length-set}
use Rattle.kernels.proofs.PowerTables.{next_fits, next_inside, powers_next}
use Rattle.kernels.proofs.power_table.Goals as goal

pub bounds-table-i-in-loop-i : goal.bounds-table-i-in-loop-i
bounds-table-i-in-loop-i c = next_inside c.args.s c.args.k c.requires.lt_s c.requires.k_bound c.loop-i.invariant.0 c.loop-i-test.true

pub bounds-table-i : goal.bounds-table-i
bounds-table-i c = omega (arith, next_inside c.args.s c.args.k c.requires.lt_s c.requires.k_bound c.loop-i.invariant.0 c.loop-i-test.true)

pub offset_bounds-table-i : goal.offset_bounds-table-i
offset_bounds-table-i c = omega (arith, bounds-table-i c)

pub offset_bounds-table-i-in-loop-i : goal.offset_bounds-table-i-in-loop-i
offset_bounds-table-i-in-loop-i c = omega (arith, bounds-table-i-in-loop-i c)

pub overflow_mul-table : goal.overflow_mul-table
overflow_mul-table c = omega (arith, next_fits c.args.s c.args.k c.requires.lt_s c.requires.k_bound c.loop-i.invariant.0 c.loop-i-test.true)

pub loop-i-preserved : goal.loop-i-preserved
loop-i-preserved c = (powers_next c.args.s c.args.k c.requires.lt_s c.requires.k_bound c.loop-i.invariant.0 c.loop-i-test.true c.loop-i.invariant.1, simp length-set c.loop-i.invariant.1)
