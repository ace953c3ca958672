-- The letters that are left to write, and then those written, are the word.
use Rattle.std.proofs.Common.{◌≡◌, ◌++◌, ◌<◌, ◌^◌, length, drop}
use Rattle.encoding.specs.WordsOfCodes.{word_of_plain}
use Rattle.codes.proofs.to_word.fill_plain.Given as goal

abbrev pub invariant-loop-i : goal.invariant-loop-i
invariant-loop-i l =
    (l.left < l.s ^ l.i)
    × (word_of_plain l.s (length l.initial.out) l.q ≡ word_of_plain l.s l.i l.left ++ drop l.i l.out)
