-- The loop of this function: the plain ranks of the i letters after the first, and of their mirror.
use Rattle.any_alphabet.proofs.FirstWindows.{Opened}
use Rattle.any_alphabet.proofs.AnyAlphabet.first_window.Given as goal

abbrev pub invariant-loop-i : goal.invariant-loop-i
invariant-loop-i l = Opened l.self.s l.self.mirror l.self.ranks.now 1 l.i-end l.forward l.back l.i
