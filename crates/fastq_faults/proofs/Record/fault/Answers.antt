-- `Record::fault` meets its contract: a ground at each test, in their order.
use Rattle.std.proofs.Common.{◌∙◌, arith}
use Rattle.fastq_faults.proofs.Records.{first_lacks, third_lacks, fourth_lacks, lines_there, texts_inside}
use Rattle.fastq_faults.proofs.Record.fault.Goals as goal

pub returns-then-not-byte_is : goal.returns-then-not-byte_is
returns-then-not-byte_is c = first_lacks c.args.self.now.lines c.if-not-byte_is.ensures

pub returns-then-not-byte_is-2 : goal.returns-then-not-byte_is-2
returns-then-not-byte_is-2 c = third_lacks c.args.self.now.lines c.if-not-byte_is.ensures c.if-not-byte_is-2.ensures

pub returns-then-self : goal.returns-then-self
returns-then-self c = fourth_lacks c.args.self.now.lines c.if-not-byte_is.ensures c.if-not-byte_is-2.ensures c.if-self.true

pub slice_bounds-sequence-end : goal.slice_bounds-sequence-end
slice_bounds-sequence-end c = omega (arith, texts_inside c.args.self.now.lines _ _ c.text_end-to.ensures c.text_end-end.ensures)

pub slice_bounds-quality-end : goal.slice_bounds-quality-end
slice_bounds-quality-end c = omega (arith, texts_inside c.args.self.now.lines _ _ c.text_end-to.ensures c.text_end-end.ensures)

pub returns : goal.returns
returns c =
    c.text_fault.ensures
    ∙ lines_there c.args.self.now.lines c.if-not-byte_is.ensures c.if-not-byte_is-2.ensures c.if-self.false _ _ c.text_end-to.ensures c.text_end-end.ensures
