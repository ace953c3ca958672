-- `batches::change_batch` meets its contract: the codes that the kernel fills in are those of the letters' windows, and the first are counted or taken away.
use Rattle.batches.proofs.BatchLaws.{codes_first, first_below}
use Rattle.batches.proofs.change_batch.Goals as goal

pub change_codes-requires-clause-fits : goal.change_codes-requires-clause-fits
change_codes-requires-clause-fits c =
    rw (codes_first c.args.coder.now _ c.fill_codes.ensures _ _ _ c.min-n.ensures c.window_count.ensures) c.requires.fits

pub change_codes-requires-clause-each : goal.change_codes-requires-clause-each
change_codes-requires-clause-each c =
    rw (codes_first c.args.coder.now _ c.fill_codes.ensures _ _ _ c.min-n.ensures c.window_count.ensures, c.requires.counts_len)
    (first_below c.args.coder.now _ c.args.limit c.requires.ranks)

pub returns : goal.returns
returns c =
    rw (← codes_first c.args.coder.now _ c.fill_codes.ensures _ _ _ c.min-n.ensures c.window_count.ensures) c.change_codes.ensures
