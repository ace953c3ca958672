-- `codes::to_word::fill_plain` meets its contract (ReadSteps).
use Rattle.std.proofs.Common.{◌∙◌, arith}
use Rattle.codes.proofs.ReadSteps.{left_lt, plain_back, plain_end}
use Rattle.codes.proofs.to_word.fill_plain.Goals as goal

pub loop-i-preserved : goal.loop-i-preserved
loop-i-preserved c =
    let i = c.loop-i.i in (
      left_lt c.args.s i c.loop-i.left c.requires.0 c.loop-i-test.true c.loop-i.invariant.0,
      c.loop-i.invariant.1 ∙ plain_back c.args.s i c.loop-i.left c.requires.0 c.loop-i-test.true c.loop-i.invariant.0 c.loop-i.out (omega arith),
    )

pub returns : goal.returns
returns c = plain_end c.args.s c.loop-i.i c.loop-i.left _ c.loop-i.out c.loop-i-test.false c.loop-i.invariant.1
