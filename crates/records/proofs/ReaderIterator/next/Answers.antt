-- `Reader::next` meets its contract: a record ends within the file, behind the offset.
use Rattle.std.proofs.Common.{rules, arith}
use Rattle.records.proofs.Reading.{ends_within}
use Rattle.records.proofs.ReaderIterator.next.Goals as goal

pub overflow_add-self : goal.overflow_add-self
overflow_add-self c =
    let ends = ends_within c.args.self.now.file.now c.args.self.now.at _ c.in_ok-record.ensures in
    record { fits = omega arith }

pub returns-clause-goes : goal.returns-clause-goes
returns-clause-goes c =
    let ends = ends_within c.args.self.now.file.now c.args.self.now.at _ c.in_ok-record.ensures in
    search rules
