-- `settings::is_in` meets its contract: the definition is the search that std's `contains` makes, in what is left of the letters.
use mathlib.Core.Path.{ap, ◌∙◌}
use mathlib.Core.List.{List}
use Prim.Native.Nat.{ℕ}
use Rattle.settings.specs.Settings.{is_in}
use Rattle.settings.proofs.Letters.{any_is_in, left_from}
use Rattle.settings.proofs.is_in.Goals as goal

pub returns : goal.returns
returns c = c.contains.ensures.value ∙ any_is_in c.args.b _ ∙ ap (λ (l : List ℕ). is_in c.args.b l) (left_from c.args.letters.now c.args.from c.min.ensures)
