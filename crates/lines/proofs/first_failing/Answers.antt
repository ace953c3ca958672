-- `lines::first_failing` meets its contract: a block of which all bytes pass is passed over.
use Rattle.std.proofs.Common.{arith, length-drop, take_all}
use Rattle.lines.proofs.Searching.{block_passed}
use Rattle.lines.proofs.first_failing.Goals as goal

pub loop-block-preserved : goal.loop-block-preserved
loop-block-preserved g c =
    let rest = take_all _ _ (omega (arith, length-drop c.loop-block.i c.args.text.now)) in
    let past = block_passed (goal.F-post g c.args.passes) c.args.text.now c.loop-block.i _ _ c.loop-block.invariant.inside rest c.loop-block.invariant.passed c.in-Some.ensures.cases (c.all_pass.ensures c.if-not-all_pass.false) in
    record { inside = past.0; passed = past.1 }
