-- `shapes::is_count_line` meets its contract. Between the front and the back stand a word, a space and a number (`Framed`).
use Rattle.std.proofs.Common.{sym, ◌∙◌}
use Rattle.shapes.proofs.Framed.{count_unframed, count_short, count_no_space, count_number, count_foreign}
use Rattle.shapes.proofs.is_count_line.Goals as goal

pub returns-in_default : goal.returns-in_default
returns-in_default c = sym (count_unframed c.args.letters.now c.args.k c.args.line.now c.in_default.ensures)

pub returns-in_default-split_at_checked : goal.returns-in_default-split_at_checked
returns-in_default-split_at_checked c =
    sym (count_short c.args.letters.now c.args.k c.args.line.now c.in-Some.inside.now c.in-Some.ensures c.in_default-split_at_checked.ensures.cases)

pub returns-in_default-strip_prefix : goal.returns-in_default-strip_prefix
returns-in_default-strip_prefix c =
    sym (count_no_space _ _ _ _ c.in-Some.ensures _ _ c.in-Some-split_at_checked.ensures.cases c.in_default-strip_prefix.ensures.cases)

pub returns-then-of_letters : goal.returns-then-of_letters
returns-then-of_letters c =
    c.is_number.ensures
    ∙ count_number _ _ _ _ c.in-Some.ensures _ _ c.in-Some-split_at_checked.ensures.cases c.in-Some-strip_prefix.digits c.in-Some-strip_prefix.ensures.cases
    (sym c.of_letters.ensures ∙ c.if-of_letters.true)

pub returns-else-of_letters : goal.returns-else-of_letters
returns-else-of_letters c =
    c.if-of_letters.false
    ∙ count_foreign _ _ _ _ c.in-Some.ensures _ _ c.in-Some-split_at_checked.ensures.cases c.in-Some-strip_prefix.digits c.in-Some-strip_prefix.ensures.cases
    (sym c.of_letters.ensures ∙ c.if-of_letters.false)
