-- The loop of this function: the length of all records is the sum so far and the length of those that are left.
use Rattle.std.proofs.Common.{◌≡◌, ◌+◌, ◌-◌}
use Rattle.generator.specs.Needs.{records_length}
use Rattle.generator.proofs.load_length.Given as goal

abbrev pub invariant-loop-i : goal.invariant-loop-i
invariant-loop-i l = records_length l.each 1 l.records ≡ l.sum + records_length l.each (l.i + 1) (l.records - l.i)
