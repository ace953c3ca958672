-- The answers of the bytes passed are written.
use Rattle.words.specs.Needs.{FilledBy}
use Rattle.words.proofs.letters.fill_by.Given as goal

abbrev pub invariant-loop-i : goal.invariant-loop-i
invariant-loop-i g l = FilledBy (goal.F-post g l.rank) l.word l.initial.out l.out l.i
