-- `loader::load` meets its contract. At each test the ground that applies, and else what `load_counts` answers and leaves in the first places.
use Rattle.settings.proofs.Outcomes.{passed_on}
use Rattle.loader.proofs.LoadAnswers.{settings_refused, many_classes, short_table, loaded}
use Rattle.loader.proofs.load.Goals as goal

pub returns-in_err-checked : goal.returns-in_err-checked
returns-in_err-checked c = rw (passed_on _ _ c.from_residual.ensures.1) (settings_refused _ _ _ _ c.in_err-checked.ensures)

pub returns-then-checked-gt-MOST_CLASSES : goal.returns-then-checked-gt-MOST_CLASSES
returns-then-checked-gt-MOST_CLASSES c = many_classes _ _ _ _ c.in_ok-checked.ensures c.if-checked-gt-MOST_CLASSES.true

pub returns-then-table-classes : goal.returns-then-table-classes
returns-then-table-classes c =
    short_table _ _ _ _ c.in_ok-checked.ensures c.if-checked-gt-MOST_CLASSES.false c.if-table-classes.true

pub returns : goal.returns
returns c =
    loaded _ _ _ _ c.in_ok-checked.ensures c.if-checked-gt-MOST_CLASSES.false _ c.new-judge.ensures c.if-table-classes.false c.load_counts.ensures
