-- `counter::put_unread` meets its contract: the field and the text stand one after the other (`then_field`), by the callees' contracts, and are short.
use Rattle.std.proofs.Common.{rules, arith, le_trans}
use Rattle.laws.specs.Text.{bytes}
use Rattle.texts.proofs.Writing.{then_field, started}
use Rattle.program.specs.Program.{unread_line}
use Rattle.program.proofs.Outputs.{printed, unread_short}
use Rattle.counter.proofs.put_unread.Goals as goal

pub returns : goal.returns
unfolding unread_line
returns c =
    let n = c.args.n in
    let line = then_field (bytes "(unread ") n c.put_field.ensures c.put_text.ensures in
    rw c.place.ensures
    (printed (started c.new-w.ensures.unwritten c.new-w.ensures.start line (search rules)) (le_trans (unread_short n (omega arith)) (omega arith)))
