-- `loader::judge::Judge::survey_line` meets its contract. Each return is one ground at its test (`Judged`).
use Rattle.std.proofs.Common.{sym, ◌∙◌}
use Rattle.loader.proofs.Judged.{survey_no_shape, survey_other, survey_good}
use Rattle.loader.proofs.judge.Judge.survey_line.Goals as goal

pub returns-then-not-is_survey_line : goal.returns-then-not-is_survey_line
returns-then-not-is_survey_line c = survey_no_shape _ _ _ (sym c.is_survey_line.ensures ∙ c.if-not-is_survey_line.true)

pub returns-then-not-is_own_survey : goal.returns-then-not-is_own_survey
returns-then-not-is_own_survey c =
    survey_other _ _ _ (sym c.is_survey_line.ensures ∙ c.if-not-is_survey_line.false)
    (sym c.is_own_survey.ensures ∙ c.if-not-is_own_survey.true)

pub returns : goal.returns
returns c =
    survey_good _ _ _ (sym c.is_survey_line.ensures ∙ c.if-not-is_survey_line.false)
    (sym c.is_own_survey.ensures ∙ c.if-not-is_own_survey.false)
