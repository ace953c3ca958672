-- `lines::text_end` meets its contract: by the line's last two bytes.
use Rattle.std.proofs.Common.{arith, drop, length-drop}
use Rattle.lines.proofs.Lines.{first_within}
use Rattle.lines.proofs.Texts.{end_none, end_crlf, end_lf, end_open}
use Rattle.lines.proofs.text_end.Goals as goal

pub returns-then-after-from : goal.returns-then-after-from
returns-then-after-from c = end_none _ _ _ c.requires c.if-after-from.true

pub slice_bounds-line-end : goal.slice_bounds-line-end
slice_bounds-line-end c =
    let a = c.args in
    omega (arith, c.requires, first_within (drop a.from a.text.now), length-drop a.from a.text.now)

pub returns-then-ends_with : goal.returns-then-ends_with
returns-then-ends_with c = end_crlf _ _ _ c.requires c.if-ends_with.ensures.value

pub returns-then-ends_with-2 : goal.returns-then-ends_with-2
returns-then-ends_with-2 c = end_lf _ _ _ c.requires c.if-ends_with.ensures.value c.if-ends_with-2.ensures.value

pub returns-else-ends_with-2 : goal.returns-else-ends_with-2
returns-else-ends_with-2 c = end_open _ _ _ c.requires c.if-ends_with-2.ensures.value
