-- `listing::line_length` meets its contract: a count has at most ten digits.
use Rattle.std.proofs.Common.{arith}
use Rattle.texts.proofs.Decimals.{decimal-length}
use Rattle.listing.proofs.line_length.Goals as goal

pub overflow_add-result-else-count-eq0 : goal.overflow_add-result-else-count-eq0
overflow_add-result-else-count-eq0 c = omega (arith, c.from.ensures, c.digit_count.ensures, decimal-length 9 c.from.result (omega arith))
