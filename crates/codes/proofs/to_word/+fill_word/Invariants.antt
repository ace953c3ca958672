-- `codes::to_word::fill_word` calls itself on the span within, two places shorter. The measure is the length of the span.
use Rattle.std.proofs.Common.{length}
use Rattle.codes.proofs.to_word.+fill_word.Given as goal

abbrev pub decreases-fill_word : goal.decreases-fill_word
decreases-fill_word l = length l.out.now
