-- `shapes::number_upto` meets its contract. The invariant: v is what the digits so far spell, up to the limit.
use Rattle.std.proofs.Common.{arith}
use Rattle.survey.specs.Grammar.{spelt}
use Rattle.survey.proofs.ValueLaws.{spelt_more}
use Rattle.shapes.proofs.number_upto.Goals as goal

pub loop-d-init : goal.loop-d-init
unfolding spelt
loop-d-init c = omega arith

pub loop-d-preserved : goal.loop-d-preserved
loop-d-preserved c = omega (arith, spelt_more 0 c.args.digits.now c.loop-d.d-index c.loop-d-test.true)
