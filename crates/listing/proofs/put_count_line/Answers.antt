-- `listing::put_count_line` meets its contract: the line's texts stand one after the other (`then`), by the callees' contracts.
use Rattle.laws.specs.Text.{bytes}
use Rattle.texts.proofs.Writing.{then, then_field}
use Rattle.listing.specs.Listing.{count_line}
use Rattle.listing.proofs.put_count_line.Goals as goal

pub returns : goal.returns
unfolding count_line
returns c = then c.put_text.ensures (then c.put_text-2.ensures (then_field (bytes " ") c.args.n c.put_field.ensures c.put_text-3.ensures))
