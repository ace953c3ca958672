-- The loop of this function: what holds at each turn.
use Rattle.loader.proofs.Setting.{Setting}
use Rattle.settings.specs.Given.{as_given}
use Rattle.loader.proofs.set_counts.Given as goal

abbrev pub invariant-loop-line : goal.invariant-loop-line
invariant-loop-line l = Setting l.text (as_given l.judge.settings) l.initial.counts l.counts l.line-iterator.rest.now
