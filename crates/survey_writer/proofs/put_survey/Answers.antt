-- `survey_writer::put_survey` meets its contract: the line's texts stand one after the other (`then`), by the callees' contracts, and are the line (`survey_parts`).
use Rattle.settings.specs.Given.{as_given}
use Rattle.laws.specs.Text.{bytes}
use Rattle.texts.proofs.Writing.{then, then_field}
use Rattle.survey_writer.proofs.LineParts.{survey_parts}
use Rattle.survey_writer.proofs.put_survey.Goals as goal

pub returns : goal.returns
returns c =
    let a = c.args in
    let classes = then_field (bytes ") (classes ") a.classes c.put_field-2.ensures c.put_text-3.ensures in
    rw (← survey_parts (as_given a.settings.now) c.requires)
    (then c.put_text.ensures (then c.put_text-2.ensures (then_field (bytes ") (k ") a.settings.now.k c.put_field.ensures (then c.put_mirror.ensures classes))))
