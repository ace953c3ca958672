-- `program::cleared_table` meets its contract: the array is the definition's list.
use Rattle.std.proofs.Common.{refl}
use Rattle.program.specs.Program.{cleared_table}
use Rattle.program.proofs.cleared_table.Goals as goal

pub returns : goal.returns
unfolding cleared_table
returns c = refl
