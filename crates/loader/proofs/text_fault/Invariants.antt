-- The loop of this function: what holds at each turn.
use Rattle.std.proofs.Common.{◌≡◌, ◌+◌, length}
use Rattle.lines.specs.Lines.{lines}
use Rattle.loading.specs.Loading.{load_fault, text_fault}
use Rattle.loader.specs.Needs.{Bounded}
use Rattle.settings.specs.Given.{as_given}
use Rattle.loader.proofs.text_fault.Given as goal

abbrev pub invariant-loop-line : goal.invariant-loop-line
invariant-loop-line l =
    (text_fault (as_given l.judge.settings) l.text ≡ load_fault (as_given l.judge.settings) l.next l.at (lines l.line-iterator.rest.now))
    × Bounded l.next × (l.at + length l.line-iterator.rest.now ≡ length l.text)
