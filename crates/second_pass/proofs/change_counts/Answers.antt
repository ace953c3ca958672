-- `second_pass::change_counts` meets its contract: ground 12 by `too_full`, and else the counts that `change_file` leaves; ground 18 and the counts by `take_file`.
use Rattle.std.proofs.Common.{sym, ◌∙◌}
use Rattle.second_pass.proofs.SecondPass.{counts-free}
use Rattle.second_pass.proofs.change_counts.Goals as goal

pub change_file-requires-clause-fits : goal.change_file-requires-clause-fits
change_file-requires-clause-fits c =
    λ _. rw c.start_of-start.ensures
    (counts-free _ _ _ (sym c.if-too_full.false ∙ c.too_full.ensures) c.requires.few_windows c.requires.windows_value)
