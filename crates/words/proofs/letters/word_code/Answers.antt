-- `words::letters::word_code` meets its contract (TwoWords).
use Rattle.std.proofs.Common.{arith}
use Rattle.settings.proofs.Limits.{k_at_most}
use Rattle.words.proofs.TwoWords.{ranks_fit, ranks_coded}
use Rattle.words.proofs.letters.word_code.Goals as goal

pub word_ranks-own-requires : goal.word_ranks-own-requires
word_ranks-own-requires c = omega (arith, k_at_most c.requires)

pub ranks_code-requires : goal.ranks_code-requires
ranks_code-requires c = (ranks_fit _ _ c.requires c.word_ranks-own.ensures, c.requires.few)

pub returns : goal.returns
returns c = ranks_coded _ _ c.requires c.word_ranks-own.ensures _ c.ranks_code.ensures.0
