-- The loop of this function: the window at i is known, and the codes of the windows up to it are written.
use Rattle.std.proofs.Common.{◌≡◌}
use Rattle.windows.proofs.Filling.{Filling}
use Rattle.any_alphabet.specs.Windows.{IsWindow}
use Rattle.any_alphabet.proofs.AnyAlphabet.fill.Given as goal

abbrev pub invariant-loop-i : goal.invariant-loop-i
invariant-loop-i l = IsWindow l.self l.window × ((l.window.at ≡ l.i) × ((l.window.length ≡ l.self.k) × Filling l.self.s l.self.mirror l.self.k l.self.ranks.now l.initial.out l.out l.i))
