-- The loops of this function: what holds at each turn, and what falls.
use Rattle.std.proofs.Common.{◌+◌, ◌-◌, ◌≤◌, length}
use Rattle.lines.specs.Needs.{AllPass}
use Rattle.lines.proofs.first_failing.Given as goal

abbrev pub invariant-loop-block : goal.invariant-loop-block
invariant-loop-block g l = record { inside : l.i ≤ length l.text; passed : AllPass (goal.F-post g l.passes) l.text l.i }

abbrev pub decreases-loop-block : goal.decreases-loop-block
decreases-loop-block g l = length l.text - l.i

abbrev pub invariant-loop-j : goal.invariant-loop-j
invariant-loop-j g l = record { inside : l.i ≤ length l.text; passed : AllPass (goal.F-post g l.passes) l.text (l.i + l.j) }
