-- `codes::to_code::ranks_code` meets its contract: the word or its mirror, whichever is lower, is coded (OwnAndMirror).
use Rattle.std.proofs.Common.{arith}
use Rattle.settings.proofs.Limits.{k_at_most}
use Rattle.codes.proofs.OwnAndMirror.{fit_limits, mirrored_fits, own_answer, other_least, other_answer, lower_first}
use Rattle.codes.proofs.to_code.ranks_code.Goals as goal

pub mirrored-mirror-requires : goal.mirrored-mirror-requires
mirrored-mirror-requires c = (c.requires.0.ranks, omega (arith, k_at_most (fit_limits c.requires.0 c.requires.1)))

pub plain_rank-requires-2 : goal.plain_rank-requires-2
plain_rank-requires-2 c = mirrored_fits c.args.m c.requires.0 c.requires.1 c.mirrored-mirror.ensures

pub canonical_code-code-requires-else-canonical : goal.canonical_code-code-requires-else-canonical
canonical_code-code-requires-else-canonical c =
    other_least c.args.m c.requires.0 c.requires.1 c.mirrored-mirror.ensures c.plain_rank.ensures c.plain_rank-2.ensures c.if-canonical.false

pub returns-then-canonical : goal.returns-then-canonical
returns-then-canonical c = (
  own_answer c.args.m c.requires.0 c.requires.1 c.mirrored-mirror.ensures c.plain_rank.ensures c.plain_rank-2.ensures c.if-canonical.true _
      c.canonical_code-code.ensures,
  lower_first c.args.m c.requires.0 c.requires.1 c.mirrored-mirror.ensures c.plain_rank.ensures c.plain_rank-2.ensures,
)

pub returns-else-canonical : goal.returns-else-canonical
returns-else-canonical c = (
  other_answer c.args.m c.requires.0 c.requires.1 c.mirrored-mirror.ensures c.plain_rank.ensures c.plain_rank-2.ensures c.if-canonical.false _
      c.canonical_code-code-else-canonical.ensures,
  lower_first c.args.m c.requires.0 c.requires.1 c.mirrored-mirror.ensures c.plain_rank.ensures c.plain_rank-2.ensures,
)
