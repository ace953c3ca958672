-- The loop of this function: the letters are good where those that are left are different capitals.
use mathlib.Core.Path.{◌≡◌}
use lib.ListN.{drop}
use Rattle.settings.specs.Settings.{good_letters, different_capitals}
use Rattle.settings.proofs.good_letters.Given as goal

abbrev pub invariant-loop-i : goal.invariant-loop-i
invariant-loop-i l = good_letters l.letters ≡ different_capitals (drop l.i l.letters)
