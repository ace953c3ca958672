-- `loader::text_fault` meets its contract. The invariant: the first ground of the text is that of the lines that are left, by what belongs next.
use Rattle.std.proofs.Common.{sym, ◌∙◌, arith}
use Rattle.std.proofs.lemmas.Result.{err_from_is_err_and}
use Rattle.loader.proofs.Loops.{fault_here, fault_later, fault_missing}
use Rattle.loader.proofs.text_fault.Goals as goal

pub returns-in_err-next : goal.returns-in_err-next
returns-in_err-next c =
    let fault = err_from_is_err_and c.from_residual.result c.from_residual.ensures.1 in
    rw (fault.1, fault.2) (sym (c.loop-line.invariant.0 ∙ fault_here c.in-Some.ensures.steps _ c.loop-line.next c.loop-line.at _ c.in_err-next.ensures))

pub loop-line-preserved : goal.loop-line-preserved
loop-line-preserved c = (
  c.loop-line.invariant.0 ∙ fault_later c.in-Some.ensures.steps _ _ _ _ c.in_ok-next.ensures.0 c.in_ok-next.ensures.1,
  c.in_ok-next.ensures.2,
  omega (arith, c.in-Some.ensures.steps.parts),
)

pub returns : goal.returns
returns c = c.at_end.ensures ∙ sym (c.loop-line.invariant.0 ∙ fault_missing _ c.in-None.ensures.steps.0 _ _)
