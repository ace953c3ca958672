-- `words::letters::write_mirror` meets its contract (TwoWords).
use Rattle.std.proofs.Common.{arith}
use Rattle.settings.proofs.Limits.{k_at_most}
use Rattle.words.proofs.TwoWords.{ranks_fit, ranks_short, mirrored_ranks, mirrored_long, mirror_written}
use Rattle.words.proofs.letters.write_mirror.Goals as goal

pub word_ranks-own-requires : goal.word_ranks-own-requires
word_ranks-own-requires c = omega (arith, k_at_most c.requires.0)

pub mirrored-mirror-requires : goal.mirrored-mirror-requires
mirrored-mirror-requires c =
    ((ranks_fit _ _ c.requires.0 c.word_ranks-own.ensures).ranks, ranks_short _ _ c.requires.0 c.word_ranks-own.ensures)

pub write_letters-requires : goal.write_letters-requires
write_letters-requires c = (
  mirrored_ranks _ _ c.requires.0 c.word_ranks-own.ensures c.args.m c.mirrored-mirror.ensures,
  omega (arith, mirrored_long _ _ c.requires.0 c.word_ranks-own.ensures c.args.m c.mirrored-mirror.ensures, c.requires.1),
)

pub returns : goal.returns
returns c = mirror_written _ _ c.requires.0 c.word_ranks-own.ensures c.args.m c.mirrored-mirror.ensures _ _ c.write_letters.ensures
