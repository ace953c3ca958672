-- `words::letters::fill_ranks_by` meets its contract: what its closure answers is the rank by the table (Filled).
use Rattle.std.proofs.Common.{ℕ, rules, arith}
use Rattle.encoding.specs.Calls.{rank_or_zero}
use Rattle.settings.specs.RankTables.{rank_by_table}
use Rattle.words.specs.Needs.{ranks_by}
use Rattle.words.proofs.Filled.{filled_with}
use Rattle.words.proofs.letters.fill_ranks_by.Goals as goal

pub returns : goal.returns
unfolding ranks_by
returns c =
    filled_with _ _ _ _ c.fill_by.ensures c.requires (record { below = λ i h. omega (arith, c.type_inv.word i) })
    (λ (b : ℕ). rank_or_zero (rank_by_table c.args.table.now b))
    (λ b r h p. search rules)
