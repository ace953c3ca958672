-- `words::letters::fill_ranks` meets its contract: what its closure answers is the rank among the letters (Filled).
use Rattle.std.proofs.Common.{rules, arith}
use Rattle.encoding.specs.Calls.{rank_at, ranks_of}
use Rattle.words.proofs.Filled.{filled_with}
use Rattle.words.proofs.letters.fill_ranks.Goals as goal

pub returns : goal.returns
unfolding ranks_of
returns c =
    filled_with _ _ _ _ c.fill_by.ensures c.requires (record { below = λ i h. omega (arith, c.type_inv.word i) }) (rank_at c.args.letters.now)
    (λ b r h p. search rules)
