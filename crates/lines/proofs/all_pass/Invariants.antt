-- The loops of this function: what holds at each turn.
use Rattle.std.proofs.Common.{◌≡◌, true}
use Rattle.lines.specs.Needs.{AllPass}
use Rattle.lines.proofs.all_pass.Given as goal

abbrev pub invariant-loop-b : goal.invariant-loop-b
invariant-loop-b g l = l.all ≡ true → AllPass (goal.F-post g l.passes) l.block l.b-index
