-- `settings::good_letters` meets its contract: at each test what it shows of the letters that are left.
use Rattle.settings.proofs.Letters.{uppercase_capital, no_capital, repeated, next_good, all_good, too_few, too_many_lem, some_letters}
use mathlib.Core.Path.{sym, ◌∙◌}
use Rattle.settings.proofs.good_letters.Goals.{then-letters-lt2-via-then-letters-lt2, then-letters-lt2-via-else-letters-lt2+then-letters-gt16, then-not-is_ascii_uppercase-via-then-not-is_ascii_uppercase, then-not-is_ascii_uppercase-via-else-not-is_ascii_uppercase+then-is_in}
use Rattle.settings.proofs.good_letters.Goals as goal

pub returns-then-letters-lt2 : goal.returns-then-letters-lt2
returns-then-letters-lt2 c = elim c.then-letters-lt2.branch [
  | then-letters-lt2-via-then-letters-lt2 w ↦ too_few _ w.if-letters-lt2.true
  | then-letters-lt2-via-else-letters-lt2+then-letters-gt16 w ↦ too_many_lem _ w.if-letters-gt16.true
]

pub loop-i-init : goal.loop-i-init
loop-i-init c = some_letters _ c.if-letters-lt2.false c.if-letters-gt16.false

pub returns-then-not-is_ascii_uppercase : goal.returns-then-not-is_ascii_uppercase
returns-then-not-is_ascii_uppercase c = elim c.then-not-is_ascii_uppercase.branch [
  | then-not-is_ascii_uppercase-via-then-not-is_ascii_uppercase w ↦
      no_capital _ _ c.loop-i-test.true (w.if-not-is_ascii_uppercase.ensures.value ∙ uppercase_capital _) ∙ sym c.loop-i.invariant
  | then-not-is_ascii_uppercase-via-else-not-is_ascii_uppercase+then-is_in w ↦
      repeated _ _ c.loop-i-test.true w.if-is_in.ensures ∙ sym c.loop-i.invariant
]

pub loop-i-preserved : goal.loop-i-preserved
loop-i-preserved c =
    c.loop-i.invariant
    ∙ next_good _ _ c.loop-i-test.true (c.if-not-is_ascii_uppercase.ensures.value ∙ uppercase_capital _) c.if-is_in.ensures

pub returns : goal.returns
returns c = all_good _ _ c.loop-i-test.false ∙ sym c.loop-i.invariant
