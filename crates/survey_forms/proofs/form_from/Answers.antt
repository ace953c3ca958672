-- `survey_forms::form_from` meets its contract: a value of an admitted length lies inside the input.
use Rattle.std.proofs.Common.{sym, ◌∙◌}
use Rattle.survey.proofs.FormLaws.{end_inside}
use Rattle.survey_forms.proofs.form_from.Goals as goal

pub number_of-number-requires : goal.number_of-number-requires
number_of-number-requires c =
    let admitted = sym c.sized.ensures ∙ c.if-not-sized.false in
    (admitted, end_inside c.args.input.now c.args.name c.args.from c.value_end.ensures admitted)

pub returns-clause-inside : goal.returns-clause-inside
returns-clause-inside c =
    end_inside c.args.input.now c.args.name c.args.from c.value_end.ensures (sym c.sized.ensures ∙ c.if-not-sized.false)
