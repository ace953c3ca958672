-- `words::can_pick` meets its contract: `code_of` answers a code exactly where no ground applies.
use Rattle.std.proofs.Common.{◌∙◌}
use Rattle.words.proofs.CodeAnswers.{codes_where_none}
use Rattle.words.proofs.PickAnswers.{first_tells, second_tells}
use Rattle.words.proofs.can_pick.Goals as goal

pub returns-then-is_ok : goal.returns-then-is_ok
returns-then-is_ok c =
    let a = c.args in
    second_tells a.settings.now.letters.now a.settings.now.k a.settings.now.mirror a.first.now a.second.now (c.if-is_ok.ensures.value ∙ codes_where_none _ _ _ _ _ c.code_of.ensures)
    (c.is_ok-then-is_ok.ensures.value ∙ codes_where_none _ _ _ _ _ c.code_of-then-is_ok.ensures)

pub returns-else-is_ok : goal.returns-else-is_ok
returns-else-is_ok c =
    let a = c.args in
    first_tells a.settings.now.letters.now a.settings.now.k a.settings.now.mirror a.first.now a.second.now (c.if-is_ok.ensures.value ∙ codes_where_none _ _ _ _ _ c.code_of.ensures)
    (c.is_ok.ensures.value ∙ codes_where_none _ _ _ _ _ c.code_of.ensures)
