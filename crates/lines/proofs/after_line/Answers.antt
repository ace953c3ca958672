-- `lines::after_line` meets its contract: the line goes up to the first LF, or to the text's end.
use Rattle.std.proofs.Common.{sym}
use Rattle.lines.proofs.Lines.{lf_none, after_lf, after_text}
use Rattle.lines.proofs.after_line.Goals as goal

pub returns-then-text-from : goal.returns-then-text-from
returns-then-text-from c = sym (lf_none c.args.text.now c.args.from c.if-text-from.true)

pub returns-then-e-text : goal.returns-then-e-text
returns-then-e-text c = after_lf _ _ _ c.if-text-from.false c.line_end-e.ensures c.if-e-text.true

pub returns-else-e-text : goal.returns-else-e-text
returns-else-e-text c = after_text _ _ _ c.if-text-from.false c.line_end-e.ensures c.if-e-text.false
