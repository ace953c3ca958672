-- `words::letters::plain_of` meets its contract (TwoWords).
use Rattle.std.proofs.Common.{arith}
use Rattle.settings.proofs.Limits.{k_at_most}
use Rattle.words.proofs.TwoWords.{ranks_fit}
use Rattle.words.proofs.letters.plain_of.Goals as goal

pub word_ranks-own-requires : goal.word_ranks-own-requires
word_ranks-own-requires c = omega (arith, k_at_most c.requires)

pub plain_rank-requires : goal.plain_rank-requires
plain_rank-requires c = ranks_fit _ _ c.requires c.word_ranks-own.ensures
