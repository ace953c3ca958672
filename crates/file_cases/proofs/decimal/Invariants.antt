-- `file_cases::decimal` meets its contract. The invariant: the number read so far is below 10^12.
use Rattle.std.proofs.Common.{◌<◌}
use Rattle.file_cases.proofs.decimal.Given as goal

abbrev pub invariant-loop-b : goal.invariant-loop-b
invariant-loop-b l = l.n < 1000000000000
