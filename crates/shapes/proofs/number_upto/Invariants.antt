-- The loop of this function: what holds at each turn.
use Rattle.std.proofs.Common.{◌≡◌, min, take}
use Rattle.survey.specs.Grammar.{spelt}
use Rattle.shapes.proofs.number_upto.Given as goal

abbrev pub invariant-loop-d : goal.invariant-loop-d
invariant-loop-d l = l.v ≡ min (spelt 0 (take l.d-index l.digits)) 4294967296
