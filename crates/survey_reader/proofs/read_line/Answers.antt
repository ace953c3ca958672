-- `survey_reader::read_line` meets its contract: the opening text, and then the forms; what it answers, in the documents' terms, by `reads_line`.
use Rattle.std.proofs.Common.{sym, ◌∙◌}
use Rattle.survey.specs.Reading.{read_line}
use Rattle.survey.proofs.LineRead.{reads_line}
use Rattle.survey_reader.proofs.read_line.Goals as goal

pub returns-then-not-starts : goal.returns-then-not-starts
unfolding read_line
returns-then-not-starts c = reads_line _ (rw (sym c.starts.ensures.value ∙ c.if-not-starts.true))

pub returns : goal.returns
unfolding read_line
returns c = reads_line _ (rw (sym c.starts.ensures.value ∙ c.if-not-starts.false) c.line_from.ensures)
