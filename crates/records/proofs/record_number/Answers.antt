-- `records::record_number` meets its contract: the call after n of a reader that starts gives the record with the number n.
use Rattle.records.proofs.Reading.{number_is}
use Rattle.records.proofs.record_number.Goals as goal

pub returns : goal.returns
returns c = number_is c.args.n c.nth.result c.new.ensures c.nth.ensures.ran
