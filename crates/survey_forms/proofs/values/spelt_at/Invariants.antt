-- The loop of this function: what holds at each turn.
use Rattle.std.proofs.Common.{◌≡◌, ◌^◌, ◌<◌, take}
use Rattle.survey.specs.Grammar.{spelt}
use Rattle.survey_forms.proofs.values.spelt_at.Given as goal

abbrev pub invariant-loop-b : goal.invariant-loop-b
invariant-loop-b l = (l.v ≡ spelt 0 (take l.b-index l.b-items)) × (l.v < 256 ^ l.b-index)
