-- The P of a refused listing is below 2^32: it is the number of classes or the length of a listing, both bounded.
use Rattle.std.proofs.Common.{List, ℕ, arith, length}
use Rattle.settings.specs.Grounds.{ground_at, too_short}
use Rattle.settings.proofs.FirstGround.{Small, place_small, then_small, room_small}
use Rattle.tally_book.specs.Table.{clear_ground}
use Rattle.listing.specs.Listing.{listing, listing_ground}
use Rattle.listing.specs.Needs.{longest}
use Rattle.listing.proofs.Lengths.{SmallCounts}
use Rattle.listing.proofs.ListingAnswers.{listing-fits}
use Rattle.kmer.proofs.Refusals.{clear_small}
use Rattle.settings.specs.Given.{the_settings}

-- The P of a refused listing is at most 1,375,731,823 (`longest`), where each count is a 32-bit number.
pub listing-small : (letters : List ℕ) (k m : ℕ) (table : List ℕ) (room : ℕ) → SmallCounts table → Small (longest 16777216) (listing_ground (the_settings letters k m) table room)
unfolding listing_ground
listing-small letters k m table room small =
    let needed = length (listing (the_settings letters k m) table) in
    then_small (longest 16777216) (clear_ground (the_settings letters k m) (length table)) (ground_at 7 (too_short room needed))
    (λ f e. omega (arith, clear_small letters k m (length table) f e))
    (λ passed. place_small (longest 16777216) 7 (too_short room needed)
    (λ p e. omega (arith, room_small room needed p e, listing-fits letters k m table passed small)))
