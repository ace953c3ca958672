-- `survey_forms::values::value_end` meets its contract: how many bytes the chain counts is the stretch of those that pass.
use Rattle.std.proofs.Common.{sym, ap, ◌∙◌, ℕ, ◌+◌, rules, drop, tests}
use Rattle.std.proofs.lemmas.Iterator.{YieldsList-from_slice}
use Rattle.std.proofs.lemmas.Iterator.Consumers.{count_from_yields_List}
use Rattle.std.proofs.lemmas.Iterator.Search.{YieldsList-from_take_while}
use Rattle.std.proofs.lemmas.List.Folds.{length-prefix_len}
use Rattle.survey.specs.Reading.{value_byte}
use Rattle.survey.proofs.TextLaws.{stretch_is}
use Rattle.survey_forms.proofs.values.value_end.Goals as goal

pub returns : goal.returns
returns c =
    let rest = drop c.args.from c.args.input.now in
    let passes = value_byte c.args.name in
    let counted =
    count_from_yields_List c.take_while.result _ c.count.ensures.ran
    (YieldsList-from_take_while _ passes (YieldsList-from_slice rest (cc)) c.take_while.ensures.closure c.take_while.ensures.done
    (λ x b q k. search (rules, tests))) in
    ap (λ (n : ℕ). c.args.from + n) (counted ∙ length-prefix_len passes rest ∙ sym (stretch_is passes rest))
