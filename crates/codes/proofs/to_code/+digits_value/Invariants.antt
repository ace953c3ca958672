-- `codes::to_code::digits_value` calls itself on the word within, two letters shorter. The measure is the length of the word.
use Rattle.std.proofs.Common.{length}
use Rattle.codes.proofs.to_code.+digits_value.Given as goal

abbrev pub decreases-digits_value : goal.decreases-digits_value
decreases-digits_value l = length l.w.now
