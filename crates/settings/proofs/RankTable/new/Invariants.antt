-- The loop of this function: the bytes before the present one have their ranks.
use Rattle.settings.proofs.RankTables.{Filled}
use Rattle.settings.proofs.RankTable.new.Given as goal

abbrev pub invariant-loop-b : goal.invariant-loop-b
invariant-loop-b l = Filled l.letters l.place-items l.b
