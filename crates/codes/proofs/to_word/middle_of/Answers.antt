-- `codes::to_word::middle_of` meets its contract: under complement there are s/2 rounded up codes of one letter.
use Rattle.std.proofs.Common.{arith}
use Rattle.codes.proofs.ReadSteps.{middle_low}
use Rattle.codes.proofs.to_word.middle_of.Goals as goal

pub overflow_sub-result : goal.overflow_sub-result
overflow_sub-result c = omega (arith, middle_low c.args.s c.args.q c.requires.0 c.in-Complement.is)

pub overflow_sub-result-in-Complement : goal.overflow_sub-result-in-Complement
overflow_sub-result-in-Complement c = omega (arith, middle_low c.args.s c.args.q c.requires.0 c.in-Complement.is)
