-- `fasta::scan_items` meets its contract. The invariant, `Scanning`: the answer for the file is that of the items that are left, from the
-- numbers reached. Bytes that the mode skips leave it as it is.
use Rattle.std.proofs.Common.{◌∙◌, arith, rules}
use Rattle.settings.proofs.Outcomes.{passed_on}
use Rattle.fasta.proofs.Scans.{start, done, skip_on, at_fault, goes_on}
use Rattle.fasta.proofs.scan_items.Goals as goal
use Rattle.fasta.proofs.scan_items.Goals.{else-loop-i-test, then-loop-i-test+then-e-file}

pub loop-i-init : goal.loop-i-init
loop-i-init c = (c.requires.0, start _ _ _ _ _ c.requires.1 (search rules))

pub returns-in_err-scanned : goal.returns-in_err-scanned
returns-in_err-scanned c =
    passed_on _ _ c.from_residual.ensures.1 ∙ at_fault c.loop-i.invariant.1 c.pass_over-e.ensures c.if-e-file.false c.item_at.ensures c.in_err-scanned.ensures

pub loop-i-smaller : goal.loop-i-smaller
loop-i-smaller c = omega (arith, c.pass_over-e.ensures.on)

pub loop-i-preserved : goal.loop-i-preserved
loop-i-preserved c =
    (c.requires.0, goes_on c.loop-i.invariant.1 c.pass_over-e.ensures c.if-e-file.false c.item_at.ensures _ c.in_ok-scanned.ensures c.next-mode.ensures)

pub returns : goal.returns
returns c =
    elim c.loop-i-test.branch [
      | else-loop-i-test w ↦ done c.loop-i.invariant.1 w.loop-i-test.false
      | then-loop-i-test+then-e-file w ↦ done (skip_on c.loop-i.invariant.1 w.pass_over-e.ensures) (omega (arith, w.if-e-file.true))
    ]
