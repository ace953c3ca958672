-- `settings::RankTable::new` meets its contract: at the end of the loop all 256 bytes have their ranks.
use native.Mathlib.Omega.{arith}
use Rattle.settings.proofs.RankTables.{fill_none, fill_one, fill_all}
use Rattle.settings.proofs.RankTable.new.Goals as goal

pub loop-b-init : goal.loop-b-init
loop-b-init c = fill_none _ _

pub loop-b-preserved : goal.loop-b-preserved
loop-b-preserved c = fill_one _ _ _ _ (omega arith) c.rank_byte.ensures c.loop-b.invariant

pub returns : goal.returns
returns c = fill_all _ _ _ c.loop-b-test.false c.loop-b.invariant
