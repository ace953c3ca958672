-- `generator::needed_length` meets its contract: by the tests, and no records have no length.
use Rattle.std.proofs.Common.{arith}
use Rattle.generator.specs.Needs.{records_length}
use Rattle.generator.proofs.Lengths.{long_record}
use Rattle.generator.proofs.needed_length.Goals as goal

pub returns-then-records-eq0 : goal.returns-then-records-eq0
unfolding records_length
returns-then-records-eq0 c = rw c.if-records-eq0.true

pub returns-else-records-eq0 : goal.returns-else-records-eq0
returns-else-records-eq0 c =
    let a = c.args in
    omega (arith, long_record a.each 1 a.records (omega (arith, c.if-each-le-MOST_BYTES.false)) (omega (arith, c.if-records-eq0.false)))
