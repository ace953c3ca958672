-- `listing::list` meets its contract: at each test the ground that applies, and else what `list_counts` answers and leaves.
use Rattle.std.proofs.Common.{sym, length-take-le}
use Rattle.settings.proofs.Outcomes.{passed_on}
use Rattle.listing.proofs.ListingAnswers.{settings_refused, many_classes, short_table, table_counts, listed}
use Rattle.listing.proofs.list.Goals as goal

pub returns-in_err-st : goal.returns-in_err-st
returns-in_err-st c = rw (passed_on _ _ c.from_residual.ensures.1) (settings_refused _ _ _ _ _ _ c.in_err-st.ensures)

pub returns-then-st-gt-MOST_CLASSES : goal.returns-then-st-gt-MOST_CLASSES
returns-then-st-gt-MOST_CLASSES c = many_classes _ _ _ _ _ _ c.in_ok-st.ensures c.if-st-gt-MOST_CLASSES.true

pub returns-then-table-classes : goal.returns-then-table-classes
returns-then-table-classes c = short_table _ _ _ _ _ _ c.in_ok-st.ensures c.if-st-gt-MOST_CLASSES.false c.if-table-classes.true

pub slice_bounds-list_counts-end : goal.slice_bounds-list_counts-end
slice_bounds-list_counts-end c = sym (length-take-le _ _ c.if-table-classes.false)

pub list_counts-requires : goal.list_counts-requires
list_counts-requires c = table_counts _ _ _ _ _ c.in_ok-st.ensures c.if-st-gt-MOST_CLASSES.false c.if-table-classes.false

pub returns : goal.returns
returns c = listed _ _ _ _ _ _ c.in_ok-st.ensures c.if-st-gt-MOST_CLASSES.false c.if-table-classes.false c.list_counts.ensures
