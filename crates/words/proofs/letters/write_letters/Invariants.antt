-- The letters of the ranks passed are written.
use Rattle.laws.proofs.Buffers.{Written}
use Rattle.encoding.specs.Calls.{in_capitals}
use Rattle.words.proofs.letters.write_letters.Given as goal

abbrev pub invariant-loop-i : goal.invariant-loop-i
invariant-loop-i l = Written (in_capitals l.letters l.w) l.initial.out l.i l.out
