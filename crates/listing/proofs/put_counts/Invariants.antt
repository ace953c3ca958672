-- The loop of this function: the lines from the class with code q on are left to write.
use Rattle.std.proofs.Common.{drop}
use Rattle.settings.specs.Given.{as_given}
use Rattle.encoding.specs.Calls.{word_bytes}
use Rattle.texts.proofs.Writing.{Lacks}
use Rattle.listing.specs.Listing.{count_lines}
use Rattle.listing.proofs.put_counts.Given as goal

abbrev pub invariant-loop-q : goal.invariant-loop-q
invariant-loop-q l =
    let word = word_bytes (as_given l.settings) in
    Lacks l.initial.w l.w (count_lines word 0 l.counts) (count_lines word l.q (drop l.q l.counts))
