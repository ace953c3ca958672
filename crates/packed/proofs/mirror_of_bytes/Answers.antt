-- `packed::mirror_of_bytes` meets its contract: the mirror of four letters more by each lookup (LowLetters).
use Rattle.std.proofs.Common.{◌≡◌, arith}
use Rattle.packed.proofs.LowLetters.{no_lookup, lookup_next, lookups_fit}
use Rattle.packed.proofs.mirror_of_bytes.Goals as goal

pub loop-init : goal.loop-init
loop-init g c = record { mirror_is = no_lookup c.args.x; rest_is = omega arith }

pub loop-preserved : goal.loop-preserved
loop-preserved g c = lookup_next c.requires.mirror_table c.loop.invariant c.mirror_of_four-before.ensures

pub overflow_add-mirror : goal.overflow_add-mirror
overflow_add-mirror g c = omega (arith, lookups_fit (lookup_next c.requires.mirror_table c.loop.invariant c.mirror_of_four-before.ensures) (omega arith))

pub overflow_mul-mirror : goal.overflow_mul-mirror
overflow_mul-mirror g c = omega (arith, overflow_add-mirror g c)

pub returns : goal.returns
returns g c =
    let all : c.loop.counter ≡ g.row.BYTES = omega arith in
    rw (← all) c.loop.invariant.mirror_is
