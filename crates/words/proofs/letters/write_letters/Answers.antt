-- `words::letters::write_letters` meets its contract (LetterLoops).
use Rattle.words.proofs.LetterLoops.{capitals_none, capitals_next, capitals_all}
use Rattle.words.proofs.letters.write_letters.Goals as goal

pub loop-i-init : goal.loop-i-init
loop-i-init c = capitals_none _ _ _ c.requires.1

pub loop-i-preserved : goal.loop-i-preserved
loop-i-preserved c = capitals_next _ _ _ c.loop-i.invariant c.loop-i-test.true

pub returns : goal.returns
returns c = capitals_all _ _ _ c.loop-i.invariant c.loop-i-test.false
