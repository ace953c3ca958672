-- `program::put_refused` meets its contract: the fields stand one after the other (`then_field`), by the callees' contracts, and are short.
use Rattle.std.proofs.Common.{arith}
use Rattle.laws.specs.Text.{bytes}
use Rattle.settings.specs.Grounds.{ground_of}
use Rattle.texts.proofs.Writing.{then_field}
use Rattle.program.specs.Program.{refused_line}
use Rattle.program.proofs.Outputs.{refused_short}
use Rattle.program.proofs.put_refused.Goals as goal

pub returns-clause-writes : goal.returns-clause-writes
unfolding refused_line
returns-clause-writes c =
    let f = c.args.f in
    then_field (bytes "(refused ") (ground_of f).0 (rw c.number.ensures at c.put_field.ensures)
    (then_field (bytes " ") (ground_of f).1 (rw c.place.ensures at c.put_field-2.ensures) c.put_text.ensures)

pub returns-clause-short : goal.returns-clause-short
returns-clause-short c = refused_short (ground_of c.args.f) (omega (arith, c.number.ensures)) (omega (arith, c.place.ensures))
