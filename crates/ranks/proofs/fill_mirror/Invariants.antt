-- The first letters of the mirror are written.
use Rattle.std.proofs.Common.{length}
use Rattle.laws.proofs.Buffers.{Written}
use Rattle.encoding.specs.Words.{mirror}
use Rattle.ranks.proofs.fill_mirror.Given as goal

abbrev pub invariant-loop-i : goal.invariant-loop-i
invariant-loop-i l = Written (mirror l.s l.m l.w) l.initial.out (length l.yielded) l.out
