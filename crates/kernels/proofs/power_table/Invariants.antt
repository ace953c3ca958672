-- The loop of this function: the powers up to s^i are written.
use Rattle.std.proofs.Common.{◌≡◌, length}
use Rattle.any_alphabet.specs.Needs.{Powers}
use Rattle.kernels.proofs.power_table.Given as goal

abbrev pub invariant-loop-i : goal.invariant-loop-i
invariant-loop-i l = Powers l.s l.i l.table × (length l.table ≡ 64)
