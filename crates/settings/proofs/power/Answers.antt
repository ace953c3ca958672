-- `settings::power` meets its contract. The invariant: p is s to the number of turns made, and at most 2^62. The measure, 63 less the turns made, shows
-- that the loop ends after at most 63 turns whatever k is.
use native.Mathlib.Omega.{arith}
use Rattle.settings.proofs.Powers.{too_big, few_turns}
use Rattle.settings.proofs.power.Goals as goal

pub returns-then-p-s : goal.returns-then-p-s
returns-then-p-s c =
    too_big c.args.s c.args.k c.loop.p c.loop.counter c.requires c.loop.invariant.0 c.loop-test.true c.if-p-s.true

pub loop-smaller : goal.loop-smaller
loop-smaller c = omega (arith, few_turns c.args.s c.loop.p c.loop.counter c.requires c.loop.invariant.0 c.loop.invariant.1)
