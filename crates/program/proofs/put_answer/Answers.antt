-- `program::put_answer` meets its contract: each ground's text is the definition's (`long_text`, `refusal_text`), and else that of the survey line's parts
-- (`line_text_lem`).
use Rattle.std.proofs.Common.{◌-◌, ◌≤◌, length, drop, length-drop, refl, sym, arith, take_all}
use Rattle.std.proofs.lemmas.Result.{err_from_is_err_and}
use Rattle.program.proofs.Outputs.{long_text, refusal_text, line_text_lem}
use Rattle.program.proofs.put_answer.Goals as goal

pub returns-then-input-gt-MOST_INPUT : goal.returns-then-input-gt-MOST_INPUT
returns-then-input-gt-MOST_INPUT c = (long_text _ c.if-input-gt-MOST_INPUT.true, refl)

pub returns-in_err-survey : goal.returns-in_err-survey
returns-in_err-survey c =
    let p = err_from_is_err_and c.from_residual.result c.from_residual.ensures.1 in
    rw (p.1, p.2) (refusal_text _ c.if-input-gt-MOST_INPUT.false (sym c.in_err-survey.ensures.answers), refl)

pub returns : goal.returns
returns c =
    let input = c.args.input.now in
    let survey = c.in_ok-survey.survey in
    let rest : length (drop survey.next input) ≤ length input - survey.next = omega (arith, length-drop survey.next input) in
    rw (line_text_lem input c.if-input-gt-MOST_INPUT.false survey c.in_ok-survey.ensures.answers)
    (rw (c.kind_by_first_byte.ensures, take_all (length input - survey.next) (drop survey.next input) rest) at c.put_counted.ensures)
