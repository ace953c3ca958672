-- `loader::set_counts` meets its contract. The invariant, `Setting`: what is left of the lines gives the counts at the end.
use Rattle.std.proofs.Common.{sym, ◌∙◌}
use Rattle.loader.proofs.Setting.{setting_none, setting_total, setting_done, class_read, setting_next}
use Rattle.loader.proofs.set_counts.Goals as goal

pub loop-line-init : goal.loop-line-init
loop-line-init c = rw c.into_iter-line-iterator.ensures.into_iter_gives (setting_none c.next-survey.result c.args.judge.now.table c.requires c.next-survey.ensures.steps)

pub returns-then-is_total_line : goal.returns-then-is_total_line
returns-then-is_total_line c =
    setting_total c.args.judge.now.table c.loop-line.invariant c.in-Some.ensures.steps (sym c.is_total_line.ensures ∙ c.if-is_total_line.true)

pub set_count-requires : goal.set_count-requires
set_count-requires c = (
  class_read c.args.judge.now.table c.loop-line.invariant c.in-Some.ensures.steps (sym c.is_total_line.ensures ∙ c.if-is_total_line.false),
  c.loop-line.invariant.one_a_class,
)

pub loop-line-preserved : goal.loop-line-preserved
loop-line-preserved c =
    setting_next c.args.judge.now.table c.loop-line.invariant c.in-Some.ensures.steps (sym c.is_total_line.ensures ∙ c.if-is_total_line.false)
    c.set_count.ensures

pub returns : goal.returns
returns c = setting_done c.args.judge.now.table c.loop-line.invariant c.in-None.ensures.steps.0
