-- The loops of this function: what holds at each turn. Each byte written fills one place of the buffer.
use Rattle.std.proofs.Common.{◌≡◌}
use Rattle.file_cases.proofs.unescape.Given as goal

abbrev pub invariant-loop-place : goal.invariant-loop-place
invariant-loop-place l = l.n ≡ l.place-index
