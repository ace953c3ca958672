-- `loader::judge::put_total` meets its contract: two texts, one behind the other.
use Rattle.laws.specs.Text.{bytes}
use Rattle.texts.proofs.Writing.{then_field}
use Rattle.listing.specs.Listing.{total_line}
use Rattle.loader.proofs.judge.put_total.Goals as goal

pub returns : goal.returns
unfolding total_line
returns c = then_field (bytes "(total ") c.args.sum c.put_field.ensures c.put_text.ensures
