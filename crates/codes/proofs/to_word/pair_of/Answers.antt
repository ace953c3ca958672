-- `codes::to_word::pair_of` meets its contract (ReadSteps).
use Rattle.codes.proofs.ReadSteps.{pair_start, pair_next, pair_here}
use Rattle.codes.proofs.to_word.pair_of.Goals as goal

pub loop-l-init : goal.loop-l-init
loop-l-init c = pair_start _ _ c.requires

pub loop-l-preserved : goal.loop-l-preserved
loop-l-preserved c = pair_next c.loop-l.invariant c.loop-l-test.true

pub returns : goal.returns
returns c = pair_here c.loop-l.invariant c.loop-l-test.false
