-- Document 02, K7: what `kmer_load` returns and leaves, and `kmer_listing`, of which the round trips speak besides.
use Rattle.std.specs.Prelude.{List, ℕ}
use Rattle.settings.specs.Grounds.{Outcome}
use Rattle.listing.specs.Listing.{Lists}
use Rattle.loading.specs.Loading.{Loads}
use Rattle.returned.specs.Returned.{returned_with_place, returned_up_to, Returns}
use Rattle.settings.specs.Given.{Given}

-- The contract of `kmer_load`: P as far as it fits.
abbrev pub LoadsInto : (settings : Given) (text t : List ℕ) (r : ℕ) (t' : List ℕ) → Type 0
LoadsInto settings text t r t' = Returns returned_up_to (λ (answer : Outcome ℕ). Loads settings text t answer t') r

-- The contract of `kmer_listing`.
abbrev pub ListsInto : (settings : Given) (t old : List ℕ) (r : ℕ) (new : List ℕ) → Type 0
ListsInto settings t old r new = Returns returned_with_place (λ (answer : Outcome ℕ). Lists settings t old answer new) r
