-- `program::put_output` meets its contract: a refusal's line is short.
use Rattle.std.proofs.Common.{arith}
use Rattle.program.proofs.put_output.Goals as goal

pub returns-in-Err-clause-short : goal.returns-in-Err-clause-short
returns-in-Err-clause-short c = rw c.in-Err.ensures.0 (omega (arith, c.put_refused.ensures.short))
