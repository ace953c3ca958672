-- `settings::RankTable::rank` meets its contract: by cases on the entry.
use mathlib.Core.Path.{sym}
use Rattle.settings.proofs.RankTables.{as_none, as_itself}
use Rattle.settings.proofs.RankTable.rank.Goals as goal

pub returns-then-rank : goal.returns-then-rank
returns-then-rank c = sym (as_none _ c.if-rank.true)

pub returns-else-rank : goal.returns-else-rank
returns-else-rank c = sym (as_itself _ c.if-rank.false)
