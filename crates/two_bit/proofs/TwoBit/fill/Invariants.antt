-- The loop of this function: the codes of the windows before the one at j are written, and the k - 1 lowest letters of x are that window's but for its last.
use Rattle.laws.proofs.Buffers.{Written}
use Rattle.encoding.specs.Words.{Complement}
use Rattle.windows.specs.Windows.{window_codes}
use Rattle.two_bit.proofs.Rolls.{Rolled}
use Rattle.two_bit.proofs.TwoBit.fill.Given as goal

abbrev pub invariant-loop-j : goal.invariant-loop-j
invariant-loop-j l = Rolled l.self.k l.ranks l.j l.x × Written (window_codes 4 Complement l.self.k l.ranks) l.initial.out l.j l.out
