-- The loop of this function: the text's bytes from the index on are left to write.
use Rattle.std.proofs.Common.{drop}
use Rattle.texts.proofs.Writing.{Lacks}
use Rattle.texts.proofs.Writer.put_text.Given as goal

abbrev pub invariant-loop-b : goal.invariant-loop-b
invariant-loop-b l = Lacks l.initial.self l.self l.text (drop l.b-index l.text)
