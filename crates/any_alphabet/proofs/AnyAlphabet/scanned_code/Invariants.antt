-- The loop of this function, `Scan`: the code is what the equal pairs so far give and the scale times the code of the window that is left; that one is shorter.
use Rattle.any_alphabet.proofs.WindowLaws.{Scan}
use Rattle.any_alphabet.proofs.AnyAlphabet.scanned_code.Given as goal

abbrev pub invariant-loop-w : goal.invariant-loop-w
invariant-loop-w l = Scan l.self.s l.self.mirror l.fn.outer.length l.self.powers.now l.self.ranks.now l.fn.outer.at l.w l.w.at l.w.length l.closing l.scale

abbrev pub decreases-loop-w : goal.decreases-loop-w
decreases-loop-w l = l.w.length
