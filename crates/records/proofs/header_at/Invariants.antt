-- The loops of this function: what holds at each turn.
use Rattle.std.proofs.Common.{◌≡◌}
use Rattle.records.specs.Records.{header_at}
use Rattle.records.proofs.header_at.Given as goal

abbrev pub invariant-loop-i : goal.invariant-loop-i
invariant-loop-i l = header_at l.file l.at ≡ header_at l.file l.i
