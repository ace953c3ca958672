-- `settings::rank_byte` meets its contract: a rank is below 16, so that it is not 255.
use mathlib.Core.Path.{◌∙◌}
use native.Mathlib.Omega.{arith}
use Rattle.settings.specs.RankTables.{as_rank}
use Rattle.settings.proofs.RankTables.{as_itself}
use Rattle.settings.proofs.Ranks.{rank_below_count}
use Rattle.settings.proofs.rank_byte.Goals as goal

pub overflow_cast-result : goal.overflow_cast-result
overflow_cast-result c = record { fits = omega (arith, rank_below_count _ _ _ c.in-Some.ensures) }

pub returns-in-Some : goal.returns-in-Some
returns-in-Some c = as_itself c.in-Some.rank (λ e. omega (arith, rank_below_count _ _ _ c.in-Some.ensures)) ∙ c.in-Some.ensures

pub returns-in-None : goal.returns-in-None
unfolding as_rank
returns-in-None c = c.in-None.ensures
