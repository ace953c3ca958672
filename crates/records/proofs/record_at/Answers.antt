-- `records::record_at` meets its contract: the next header with its line end makes the record, by the contracts of its calls.
use Rattle.std.proofs.Common.{ap, ◌∙◌, Some}
use Rattle.records.specs.Records.{Parts}
use Rattle.records.proofs.Searches.{line_end_is, some_record, no_record}
use Rattle.records.proofs.record_at.Goals as goal

pub returns-then-h-file : goal.returns-then-h-file
returns-then-h-file c = no_record c.args.file.now c.args.at _ c.header_at-h.ensures.0 c.if-h-file.true

pub returns : goal.returns
returns c =
    ap (λ (p : Parts). Some p) c.record_to.ensures
    ∙ some_record c.args.file.now c.args.at _ c.header_at-h.ensures.0 c.if-h-file.false _ (line_end_is c.if-h-file.false c.line_end-e.ensures)
