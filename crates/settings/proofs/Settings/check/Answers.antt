-- `settings::Settings::check` meets its contract: at each test the ground that applies, by the laws of proofs/SettingsGrounds.antt.
use mathlib.Core.Path.{◌∙◌}
use Rattle.settings.proofs.Outcomes.{passed_on}
use Rattle.settings.proofs.SettingsGrounds.{ground_1, mirror_refused, mirror_given}
use Rattle.settings.proofs.Letters.{good_at_least, good_at_most}
use Rattle.settings.proofs.Settings.check.Goals as goal

pub returns-then-not-good_letters : goal.returns-then-not-good_letters
returns-then-not-good_letters c = ground_1 _ _ _ c.if-not-good_letters.ensures

pub returns-in_err-m : goal.returns-in_err-m
returns-in_err-m c =
    passed_on _ _ c.from_residual.ensures.1 ∙ mirror_refused _ _ _ _ c.if-not-good_letters.ensures c.in_err-m.ensures

pub sized-requires : goal.sized-requires
sized-requires c = (good_at_least _ c.if-not-good_letters.ensures, good_at_most _ c.if-not-good_letters.ensures)

pub returns : goal.returns
returns c = c.sized.ensures ∙ mirror_given _ _ _ c.if-not-good_letters.ensures c.in_ok-m.ensures
