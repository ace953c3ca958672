-- `codes::to_code::differing_at` meets its contract: it stops at the middle or at a pair that differs (Scan).
use Rattle.std.proofs.Common.{◌∙◌, sym}
use Rattle.codes.proofs.Scan.{stop_middle, stop_differs}
use Rattle.codes.proofs.to_code.differing_at.Goals as goal
use Rattle.codes.proofs.to_code.differing_at.Goals.{then-i-n-via-then-i-n, then-i-n-via-else-i-n+then-w-i}

pub returns : goal.returns
returns c =
    elim c.then-i-n.branch [
      | then-i-n-via-then-i-n w ↦ stop_middle _ _ _ _ c.loop-i.invariant w.if-i-n.true
      | then-i-n-via-else-i-n+then-w-i w ↦ stop_differs _ _ _ _ c.loop-i.invariant (λ e. w.if-w-i.true (e ∙ sym w.mirror_rank.ensures))
    ]
