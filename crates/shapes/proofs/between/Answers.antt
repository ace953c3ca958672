-- `shapes::between` meets its contract: what std's `strip_prefix` and `strip_suffix` leave stands between the front and the back.
use Rattle.std.proofs.Common.{Some}
use Rattle.std.proofs.lemmas.Bool.Decides.{Decides-eqb}
use Rattle.std.proofs.lemmas.Slice.Eq.{strip_prefix_is}
use Rattle.shapes.proofs.Framed.{no_front, between_is}
use Rattle.shapes.proofs.between.Goals as goal

pub returns-in_err-strip_prefix : goal.returns-in_err-strip_prefix
returns-in_err-strip_prefix c = rw c.from_residual.ensures (no_front c.args.front.now c.args.back.now c.args.line.now c.in_err-strip_prefix.ensures.cases)

pub returns : goal.returns
returns c =
    let a = c.args in
    let x = c.in_ok-strip_prefix.field-0 in
    between_is a.front.now a.back.now a.line.now x.now c.strip_suffix.result
    (strip_prefix_is Decides-eqb a.line.now a.front.now (Some x) c.in_ok-strip_prefix.ensures.cases) c.strip_suffix.ensures.cases
