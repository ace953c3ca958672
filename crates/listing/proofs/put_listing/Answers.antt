-- `listing::put_listing` meets its contract: the three parts stand one after the other (`then`), by the callees' contracts, and are short (`listing_length`).
use Rattle.std.proofs.Common.{arith}
use Rattle.texts.proofs.Writing.{then}
use Rattle.listing.specs.Listing.{listing_of}
use Rattle.listing.proofs.Lengths.{listing_length}
use Rattle.listing.proofs.put_listing.Goals as goal

pub returns-clause-writes : goal.returns-clause-writes
unfolding listing_of
returns-clause-writes c = then c.put_survey.ensures (then c.put_counts.ensures c.put_total.ensures)

pub returns-clause-counts_len_bound : goal.returns-clause-counts_len_bound
returns-clause-counts_len_bound c = listing_length _ _ _ _ c.requires (λ i. omega (arith, c.type_inv.counts i))
