-- `words::letters::foreign_at` meets its contract: the first byte that has no rank is the one that `position` finds.
use Rattle.std.proofs.Common.{◌≡◌, ◌∙◌, rules, tests, arith}
use Rattle.std.proofs.lemmas.Iterator.{YieldsList-from_slice}
use Rattle.std.proofs.lemmas.Iterator.Search.{position_from_yields_List}
use Rattle.encoding.specs.Calls.{foreign_from}
use Rattle.words.proofs.LetterLoops.{foreign_found}
use Rattle.words.proofs.letters.foreign_at.Goals as goal

pub returns : goal.returns
returns c =
    let letters = c.args.letters.now in
    let word = c.args.word.now in
    let found : c.position.result ≡ foreign_from letters 0 word
    = position_from_yields_List _ _ _ _ c.position.ensures.ran (YieldsList-from_slice word cc) (λ x b q k. search (rules, tests)) ∙ foreign_found letters word in
    grind (arith, found)
