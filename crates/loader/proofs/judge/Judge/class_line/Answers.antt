-- `loader::judge::Judge::class_line` meets its contract. Each return is one ground at its test (`Judged`).
use Rattle.std.proofs.Common.{sym, ◌∙◌, arith}
use Rattle.settings.specs.Given.{as_given}
use Rattle.loader.proofs.Judged.{count_long, code_below, class_bad, class_good}
use Rattle.loader.proofs.judge.Judge.class_line.Goals as goal

pub word_in-word-requires : goal.word_in-word-requires
word_in-word-requires c = omega (arith, count_long _ _ _ c.requires.1.shaped)

pub count_in-n-requires : goal.count_in-n-requires
count_in-n-requires c = count_long _ _ _ c.requires.1.shaped

pub returns-then-not-is_right : goal.returns-then-not-is_right
returns-then-not-is_right c =
    class_bad _ _ _ _ _ c.args.self.now.table c.requires.1 _ _ _ c.word_in-word.ensures.1 c.word_in-word.ensures.0 c.count_in-n.ensures
    (sym c.is_right.ensures ∙ c.if-not-is_right.true)

pub overflow_add-result : goal.overflow_add-result
overflow_add-result c =
    let j = c.args.self.now in
    let a = c.args in
    omega (arith, c.word_in-word.ensures.0, code_below (as_given j.settings) a.low a.sum a.at a.line.now j.table c.requires.1, j.table.few)

pub returns : goal.returns
returns c =
    class_good _ _ _ _ _ c.args.self.now.table c.requires.1 _ _ _ c.word_in-word.ensures.1 c.word_in-word.ensures.0 c.count_in-n.ensures
    (sym c.is_right.ensures ∙ c.if-not-is_right.false) c.requires.0
