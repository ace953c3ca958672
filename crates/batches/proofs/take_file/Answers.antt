-- `batches::take_file` meets its contract: where all windows were taken away no count was too low, and else what was taken away is
-- counted again, for which there is room, since it was there.
use Rattle.std.proofs.Common.{◌∙◌, arith, rules}
use Rattle.counts.proofs.CountLoops.{all_in, fits_fewer}
use Rattle.counts.proofs.Taking.{of_all, restore_fits, took-all, lacking_restored}
use Rattle.batches.proofs.take_file.Goals as goal

pub returns-then-taken-windows : goal.returns-then-taken-windows
returns-then-taken-windows c =
    took-all (of_all c.requires.windows_value c.change_file-taken.ensures) (c.if-taken-windows.true ∙ c.requires.windows_value)

pub change_file-requires-clause-fits : goal.change_file-requires-clause-fits
change_file-requires-clause-fits c =
    λ _. fits_fewer _ _ _ _ (omega arith) (restore_fits (of_all c.requires.windows_value c.change_file-taken.ensures) (λ q. search rules))

pub returns : goal.returns
returns c =
    lacking_restored (of_all c.requires.windows_value c.change_file-taken.ensures) (λ e. c.if-taken-windows.false (omega (arith, e, c.requires.windows_value)))
    (all_in c.change_file.ensures)
