-- `survey_forms::three_forms` meets its contract: after a form that is not there no other is.
use Rattle.std.proofs.Common.{sym, ◌∙◌}
use Rattle.survey.specs.Reading.{next_form}
use Rattle.survey_forms.proofs.three_forms.Goals as goal

pub returns-in_err-first : goal.returns-in_err-first
unfolding next_form
returns-in_err-first c = rw (c.from_residual.ensures, sym c.form_at.ensures.value ∙ c.in_err-first.was)

pub returns-in_err-second : goal.returns-in_err-second
unfolding next_form
returns-in_err-second c =
    rw (
      c.from_residual-in_err-second.ensures,
      sym c.form_at.ensures.value ∙ c.in_ok-first.was,
      sym c.next_form.ensures.value ∙ c.in_err-second.was,
    )
