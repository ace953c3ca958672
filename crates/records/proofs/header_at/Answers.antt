-- `records::header_at` meets its contract. The invariant: the next header is still to be found in what is left.
use Rattle.std.proofs.Common.{sym, ◌∙◌, arith}
use Rattle.records.specs.Records.{is_header}
use Rattle.records.proofs.Searches.{first_here, first_next, no_header_left}
use Rattle.records.proofs.header_at.Goals as goal

pub returns-then-is_header : goal.returns-then-is_header
returns-then-is_header c =
    let here = first_here (is_header c.args.file.now) _ c.loop-i.i c.loop-i-test.true (sym c.is_header.ensures ∙ c.if-is_header.true) in
    (sym (c.loop-i.invariant ∙ here), omega arith)

pub loop-i-preserved : goal.loop-i-preserved
loop-i-preserved c =
    c.loop-i.invariant ∙ first_next (is_header c.args.file.now) _ c.loop-i.i c.loop-i-test.true (sym c.is_header.ensures ∙ c.if-is_header.false)

pub returns : goal.returns
returns c =
    let e = no_header_left c.args.file.now c.args.at c.loop-i.i c.loop-i.auto.i-end c.loop-i-test.false c.loop-i.invariant in
    (c.max.ensures ∙ e, omega (arith, c.max.ensures))
