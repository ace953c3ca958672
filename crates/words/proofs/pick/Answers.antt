-- `words::pick` meets its contract: refused where coding either word is, and else the one of lower plain rank (PickAnswers).
use Rattle.words.proofs.PickAnswers.{first_within, second_within, first_taken, second_taken}
use Rattle.words.proofs.pick.Goals as goal

pub plain_of-requires : goal.plain_of-requires
plain_of-requires c = let a = c.args in first_within a.settings.now.letters.now a.settings.now.k a.settings.now.mirror a.first a.second c.if-not-can_pick.ensures

pub plain_of-requires-2 : goal.plain_of-requires-2
plain_of-requires-2 c = let a = c.args in second_within a.settings.now.letters.now a.settings.now.k a.settings.now.mirror a.first a.second c.if-not-can_pick.ensures

pub returns-then-plain_of : goal.returns-then-plain_of
returns-then-plain_of c =
    let a = c.args in
    first_taken a.settings.now.letters.now a.settings.now.k a.settings.now.mirror a.first a.second c.if-not-can_pick.ensures _ _ c.plain_of.ensures c.plain_of-2.ensures c.if-plain_of.true

pub returns : goal.returns
returns c =
    let a = c.args in
    second_taken a.settings.now.letters.now a.settings.now.k a.settings.now.mirror a.first a.second c.if-not-can_pick.ensures _ _ c.plain_of.ensures c.plain_of-2.ensures c.if-plain_of.false
