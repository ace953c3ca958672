-- `listing::put_total` meets its contract: the sum and its text stand one after the other (`then_field`), by the callees' contracts.
use Rattle.laws.specs.Text.{bytes}
use Rattle.tally_book.specs.Demand.{sum}
use Rattle.texts.proofs.Writing.{then_field}
use Rattle.listing.specs.Listing.{total_line}
use Rattle.listing.proofs.put_total.Goals as goal

pub returns : goal.returns
unfolding total_line
returns c = then_field (bytes "(total ") (sum c.args.counts.now) (rw c.total.ensures at c.put_field.ensures) c.put_text.ensures
