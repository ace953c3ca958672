-- `loader::judge::Judge::word_in` meets its contract. The ranks of the word were looked up, and are coded (`Judged`).
use Rattle.std.proofs.Common.{arith, length-take, drop, ◌-◌, ◌+◌}
use Rattle.settings.proofs.Limits.{k_at_most}
use Rattle.settings.proofs.SettingsGrounds.{limits}
use Rattle.loader.proofs.Judged.{word_read}
use Rattle.loader.proofs.judge.Judge.word_in.Goals as goal

pub word_ranks-ranks-requires : goal.word_ranks-ranks-requires
word_ranks-ranks-requires c =
    let j = c.args.self.now in
    omega (arith, length-take (7 + j.settings.k - 7) (drop 7 c.args.line.now), k_at_most (limits j.settings.letters.now j.settings.k j.settings.mirror j.table.good))

pub ranks_code-requires : goal.ranks_code-requires
ranks_code-requires c =
    let j = c.args.self.now in
    (word_read j.table j.derived j.ranks_are (record { below = λ i h. omega (arith, c.type_inv.line i) }) c.requires c.word_ranks-ranks.ensures).fits

pub returns : goal.returns
returns c =
    let j = c.args.self.now in
    let W = word_read j.table j.derived j.ranks_are (record { below = λ i h. omega (arith, c.type_inv.line i) }) c.requires c.word_ranks-ranks.ensures in
    (W.code_is c.ranks_code.ensures.0, W.canonical_is c.ranks_code.ensures.1)
