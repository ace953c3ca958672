-- `program::put_file_line` meets its contract: the fields stand one after the other (`then_field`), by the callees' contracts, and are short.
use Rattle.std.proofs.Common.{arith}
use Rattle.laws.specs.Text.{bytes}
use Rattle.texts.proofs.Writing.{then_field}
use Rattle.program.specs.Program.{file_line}
use Rattle.program.proofs.Outputs.{file_line_short}
use Rattle.program.proofs.put_file_line.Goals as goal

pub returns-clause-writes : goal.returns-clause-writes
unfolding file_line
returns-clause-writes c =
    let n = c.args.n in
    then_field (bytes "(file (records ") n.records c.put_field.ensures
    (then_field (bytes ") (letters ") n.letters c.put_field-2.ensures
    (then_field (bytes ") (foreign ") n.foreign c.put_field-3.ensures
    (then_field (bytes ") (edge ") n.edge c.put_field-4.ensures (then_field (bytes ") (windows ") n.windows c.put_field-5.ensures c.put_text.ensures))))

pub returns-clause-short : goal.returns-clause-short
returns-clause-short c = file_line_short c.args.n (omega arith) (omega arith) (omega arith) (omega arith) (omega arith)
