-- `packed::mirror_of_four` meets its contract: one lookup.
use Rattle.std.proofs.Common.{arith}
use Rattle.packed.proofs.LowLetters.{low_mirror_lt, by_lookup}
use Rattle.packed.proofs.mirror_of_four.Goals as goal

pub overflow_cast-result : goal.overflow_cast-result
overflow_cast-result c = let x = c.args.x in omega (arith, by_lookup c.requires x, low_mirror_lt 4 x)
