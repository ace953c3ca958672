-- `loader::load_counts` meets its contract. Refused by the text's first ground, or the counts set from zeros (`LoadAnswers`).
use Rattle.std.proofs.Common.{sym, rules}
use Rattle.loader.proofs.LoadAnswers.{all_cleared, counts_replaced}
use Rattle.loader.proofs.load_counts.Goals as goal

pub returns : goal.returns
returns c = counts_replaced _ _ _ c.requires (sym c.in_ok-text_fault.ensures) (all_cleared c.args.counts.now (search rules)) c.set_counts.ensures
