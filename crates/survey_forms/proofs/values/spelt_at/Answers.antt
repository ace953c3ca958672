-- `survey_forms::values::spelt_at` meets its contract. The invariant: v is what the digits so far spell; and v, from i bytes, is below 256^i, so that 3 turns
-- cannot overflow.
use Rattle.std.proofs.Common.{refl, sym, ◌∙◌, ◌+◌, ◌-◌, ◌<◌, arith, take, drop}
use Rattle.survey.specs.Grammar.{spelt}
use Rattle.survey.proofs.ValueLaws.{spelt_more, grows, small}
use Rattle.survey_forms.proofs.values.spelt_at.Goals as goal

pub loop-b-init : goal.loop-b-init
unfolding spelt
loop-b-init c = (refl, omega arith)

pub overflow_mul-v : goal.overflow_mul-v
overflow_mul-v c = omega (arith, small c.loop-b.v c.loop-b.b-index c.loop-b.invariant.1 (omega arith))

pub loop-b-preserved : goal.loop-b-preserved
loop-b-preserved c =
    let digits = take (c.args.from + c.args.len - c.args.from) (drop c.args.from c.args.input.now) in
    let i = c.loop-b.b-index in
    let small-digit : c.digit.result < 256 = omega arith in (
      sym (spelt_more 0 digits i c.loop-b-test.true ∙ rw (← c.loop-b.invariant.0, ← c.digit.ensures)),
      grows c.loop-b.v c.digit.result i c.loop-b.invariant.1 small-digit,
    )
