-- `program::put_counted` meets its contract: the add's answer says which text is due (`not_added`, `counted_prints`), and the callees put it.
use Rattle.std.proofs.Common.{refl, sym, length-take-le}
use Rattle.std.proofs.lemmas.Result.{err_from_is_err_and}
use Rattle.program.proofs.Outputs.{settings_text, counted, not_added, counted_prints}
use Rattle.program.proofs.put_counted.Goals as goal

pub returns-in_err-st : goal.returns-in_err-st
returns-in_err-st c =
    let p = err_from_is_err_and c.from_residual.result c.from_residual.ensures.1 in
    rw (p.1, p.2) (settings_text _ _ _ c.in_err-st.ensures, refl)

pub returns-in_err-n : goal.returns-in_err-n
returns-in_err-n c =
    let p = err_from_is_err_and c.from_residual-in_err-n.result c.from_residual-in_err-n.ensures.1 in
    rw (p.1, p.2) (not_added _ _ c.cleared_table-table.ensures c.in_err-n.ensures, refl)

pub slice_bounds-table-end : goal.slice_bounds-table-end
slice_bounds-table-end c = (counted _ _ c.cleared_table-table.ensures c.in_ok-st.ensures c.in_ok-n.ensures).long

pub slice_bounds-put_listing-end : goal.slice_bounds-put_listing-end
slice_bounds-put_listing-end c =
    sym (length-take-le _ _ (counted _ _ c.cleared_table-table.ensures c.in_ok-st.ensures c.in_ok-n.ensures).long)

pub put_listing-requires : goal.put_listing-requires
put_listing-requires c = (counted _ _ c.cleared_table-table.ensures c.in_ok-st.ensures c.in_ok-n.ensures).all

pub returns : goal.returns
returns c =
    counted_prints _ _ c.cleared_table-table.ensures c.in_ok-st.ensures c.in_ok-n.ensures
    c.put_file_line.ensures.short c.put_listing.ensures.counts_len_bound c.put_listing.ensures.writes c.put_file_line.ensures.writes
