-- `batches::gather` meets its contract. The invariant, `Gathering`: the windows to come are those of the letters in the array and
-- of what is left of the file. Bytes that the mode skips leave it as it is.
use Rattle.std.proofs.Common.{arith}
use Rattle.batches.proofs.Gathering.{byte_read, skip_on, gathered_end, gathered_run, gathers_on}
use Rattle.batches.proofs.gather.Goals.{then-loop-at-test+else-letters-array, else-loop-at-test, then-loop-at-test+then-letters-array+then-e-file}
use Rattle.batches.proofs.gather.Goals as goal

pub returns-then-m : goal.returns-then-m
returns-then-m c =
    gathered_run (skip_on c.loop-at.invariant c.pass_over-e.ensures)
    (byte_read (omega (arith, c.pass_over-e.ensures.inside, c.if-e-file.false)) c.item_at.ensures c.mark_of-m.ensures c.next-mode.ensures) c.if-m.true

pub loop-at-preserved : goal.loop-at-preserved
loop-at-preserved c =
    gathers_on (skip_on c.loop-at.invariant c.pass_over-e.ensures)
    (byte_read (omega (arith, c.pass_over-e.ensures.inside, c.if-e-file.false)) c.item_at.ensures c.mark_of-m.ensures c.next-mode.ensures)
    (omega (arith, c.type_inv.file c.pass_over-e.result)) c.if-letters-array.true c.if-m.false

pub returns : goal.returns
returns c =
    elim c.loop-at-test.branch [
      | then-loop-at-test+else-letters-array w ↦ gathered_end c.loop-at.invariant (omega (arith, c.requires.room, c.loop-at.auto.array)) c.requires.more w.at-is (λ _. w.if-letters-array.false)
      | else-loop-at-test w ↦ gathered_end c.loop-at.invariant (omega (arith, c.requires.room, c.loop-at.auto.array)) c.requires.more w.at-is (λ h. absurd (omega arith))
      | then-loop-at-test+then-letters-array+then-e-file w ↦
          gathered_end (skip_on c.loop-at.invariant w.pass_over-e.ensures) (omega (arith, c.requires.room, c.loop-at.auto.array)) c.requires.more w.at-is (λ h. absurd (omega arith))
    ]
