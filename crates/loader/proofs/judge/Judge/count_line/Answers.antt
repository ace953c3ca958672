-- `loader::judge::Judge::count_line` meets its contract. The total, no shape, or the line of a class.
use Rattle.std.proofs.Common.{sym, ◌∙◌}
use Rattle.loader.proofs.Judged.{total_good, total_bad, no_shape}
use Rattle.loader.proofs.judge.Judge.count_line.Goals as goal

pub returns-then-not-is_total_of : goal.returns-then-not-is_total_of
returns-then-not-is_total_of c =
    total_bad _ _ _ _ _ (sym c.is_total_line.ensures ∙ c.if-is_total_line.true)
    (sym c.is_total_of.ensures ∙ c.if-not-is_total_of.true)

pub returns-then-is_total_line : goal.returns-then-is_total_line
returns-then-is_total_line c =
    total_good _ _ _ _ _ (sym c.is_total_line.ensures ∙ c.if-is_total_line.true)
    (sym c.is_total_of.ensures ∙ c.if-not-is_total_of.false)

pub returns-then-not-is_count_line : goal.returns-then-not-is_count_line
returns-then-not-is_count_line c =
    no_shape _ _ _ _ _ (sym c.is_total_line.ensures ∙ c.if-is_total_line.false)
    (sym c.is_count_line.ensures ∙ c.if-not-is_count_line.true)
