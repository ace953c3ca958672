-- `loader::judge::Judge::is_own_survey` meets its contract. The survey line is written and compared.
use Rattle.std.proofs.Common.{sym, refl, ap, ◌∙◌, length-take-le}
use Rattle.loading.specs.Shapes.{same_text}
use Rattle.loader.proofs.Judged.{same_is, survey_held}
use Rattle.loader.proofs.judge.Judge.is_own_survey.Goals as goal

pub slice_bounds-buffer-end : goal.slice_bounds-buffer-end
slice_bounds-buffer-end c = (survey_held _ c.args.self.now.table refl c.write_survey-n.ensures).inside

pub slice_bounds-eq-end : goal.slice_bounds-eq-end
slice_bounds-eq-end c = sym (length-take-le _ _ (survey_held _ c.args.self.now.table refl c.write_survey-n.ensures).inside)

pub returns : goal.returns
returns c =
    c.eq.ensures ∙ same_is c.args.line.now _ ∙ ap (same_text c.args.line.now) (survey_held _ c.args.self.now.table refl c.write_survey-n.ensures).front
