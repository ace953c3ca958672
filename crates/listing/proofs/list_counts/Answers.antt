-- `listing::list_counts` meets its contract: what is refused or written is the listing (`text_short`, `text_written`), by the callees' contracts.
use Rattle.std.proofs.Common.{rules}
use Rattle.texts.proofs.Writing.{started}
use Rattle.listing.proofs.ListingAnswers.{text_short, text_written}
use Rattle.listing.proofs.list_counts.Goals as goal

pub returns-then-text-needed : goal.returns-then-text-needed
returns-then-text-needed c = text_short c.listing_length-needed.ensures c.if-text-needed.true

pub returns : goal.returns
returns c =
    text_written c.listing_length-needed.ensures c.if-text-needed.false (started c.new-w.ensures.unwritten c.new-w.ensures.start c.put_listing.ensures.writes (search rules))
