-- The pairs passed are equal.
use Rattle.std.proofs.Common.{◌-◌, length}
use Rattle.codes.proofs.Scan.{Equal}
use Rattle.codes.proofs.to_code.differing_at.Given as goal

abbrev pub invariant-loop-i : goal.invariant-loop-i
invariant-loop-i l = Equal l.s l.m l.w l.i

abbrev pub decreases-loop-i : goal.decreases-loop-i
decreases-loop-i l = length l.w - l.i
