-- `packed::mirror_table` meets its contract: one test, computed over the whole table (Tables).
use Rattle.std.proofs.Common.{refl}
use Rattle.packed.specs.Mirrors.{packed}
use Rattle.packed.proofs.Tables.{mirrored_byte, all_mirrored, table_by_test}
use Rattle.packed.proofs.mirror_table.Goals as goal

pub returns : goal.returns
unfolding packed mirrored_byte all_mirrored
returns c = table_by_test _ refl refl
