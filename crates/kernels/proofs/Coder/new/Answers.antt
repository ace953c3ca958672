-- `Coder::new` meets its contract: what it makes has what a coder promises of its fields (GoodSettings).
use Rattle.std.proofs.Common.{arith}
use Rattle.kernels.proofs.GoodSettings.{twice, twice_fits, few_letters, below}
use Rattle.kernels.proofs.Coder.new.Goals as goal

pub overflow_mul-result : goal.overflow_mul-result
overflow_mul-result c = omega (arith, twice_fits c.requires.good)

pub overflow_sub-result : goal.overflow_sub-result
overflow_sub-result c = omega (arith, twice c.requires.good)

pub invariant_of-result-clause-count : goal.invariant_of-result-clause-count
invariant_of-result-clause-count c = omega (arith, twice c.requires.good)

pub invariant_of-result-clause-ranks_below : goal.invariant_of-result-clause-ranks_below
invariant_of-result-clause-ranks_below c = below c.requires.good c.new.ensures

pub new-requires : goal.new-requires
new-requires c = few_letters c.requires.good
