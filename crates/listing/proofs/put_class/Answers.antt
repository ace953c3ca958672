-- `listing::put_class` meets its contract: without a count nothing is written; else `word_of` leaves the word (`word_read`), whose line is put.
use Rattle.std.proofs.Common.{sym, arith, length-take-le}
use Rattle.listing.proofs.Lines.{word_read, counted_line}
use Rattle.listing.proofs.put_class.Goals as goal

pub slice_bounds-word-end : goal.slice_bounds-word-end
slice_bounds-word-end c = (word_read c.requires.0 c.requires.1 (omega arith) c.word_of.ensures).long

pub slice_bounds-put_count_line-end : goal.slice_bounds-put_count_line-end
slice_bounds-put_count_line-end c = sym (length-take-le _ _ (word_read c.requires.0 c.requires.1 (omega arith) c.word_of.ensures).long)

pub returns-then-n-gt0 : goal.returns-then-n-gt0
returns-then-n-gt0 c =
    let held = word_read c.requires.0 c.requires.1 (omega arith) c.word_of.ensures in
    rw (counted_line _ c.args.n (λ e. omega arith), ← held.start) c.put_count_line.ensures
