-- `settings::rank_of` meets its contract: a byte's rank is the place of what it is read as.
use mathlib.Core.Path.{◌∙◌, ap}
use Prim.Native.Nat.{ℕ}
use Rattle.settings.specs.Settings.{place_from}
use Rattle.settings.proofs.Ranks.{place_position}
use Rattle.settings.proofs.rank_of.Goals as goal

pub returns : goal.returns
returns c = c.place_of.ensures ∙ place_position _ _ ∙ ap (λ (u : ℕ). place_from 0 u c.args.letters.now) c.read_as.ensures
