-- `kmer::kmer_listing` meets its contract: what `listing::list` answered, as one number, by the laws of `returned`; its P fits by
-- `listing-small`.
use Rattle.std.proofs.Common.{arith, rules}
use Rattle.returned.proofs.Refusals.{place_fits}
use Rattle.listing.specs.Needs.{longest}
use Rattle.kmer.proofs.Listings.{listing-small}
use Rattle.kmer.proofs.kmer_listing.Goals as goal

pub with_place-requires : goal.with_place-requires
with_place-requires c =
    let small = listing-small _ _ _ c.args.table.now _ (λ i. search rules) in
    place_fits c.list.ensures (longest 16777216) small (omega arith)
