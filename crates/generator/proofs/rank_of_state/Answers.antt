-- `generator::rank_of_state` meets its contract.
use Rattle.std.proofs.Common.{refl}
use Rattle.testload.specs.TestLoad.{drawn_rank}
use Rattle.generator.proofs.rank_of_state.Goals as goal

pub returns : goal.returns
unfolding drawn_rank
returns c = refl
