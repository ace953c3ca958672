-- Loading from C: what `kmer_load` returns and leaves is what a load answers and leaves (`load_from_c`), of which the theorems stand in the crate loading; lists of
-- `kmer_add` and `kmer_withdraw` calls after it start from the loaded counts (`kept_from_loaded_c`); P is told whole of every text shorter than 2^55 bytes
-- (`load_told`); and the two round trips of the C calls (`loads_what_was_listed_c`, `lists_what_was_loaded_c`).
use Rattle.std.proofs.Common.{◌≡◌, refl, ap, ◌∙◌, Option, None, Some, List, ℕ, ◌-◌, ◌^◌, ◌≤◌, ◌<◌, min, arith, length, take}
use Rattle.settings.specs.Grounds.{Ground, Outcome, given, outcome, ◌or_else◌}
use Rattle.settings.proofs.Outcomes.{first_none}
use Rattle.settings.proofs.FirstGround.{Small, then_small}
use Rattle.tally_book.specs.Table.{class_count, clear_ground}
use Rattle.tally_book.specs.Demand.{counts}
use Rattle.tally_book.proofs.Clearing.{settings_good}
use Rattle.listing.specs.Listing.{listing, listing_ground, Lists}
use Rattle.listing.proofs.Lengths.{SmallCounts}
use Rattle.loading.specs.Loading.{text_fault, load_ground, loaded_book, Loads}
use Rattle.loading.proofs.Theorems.{loads_what_was_listed, lists_what_was_loaded, loaded_agrees}
use Rattle.loading.proofs.RefusalNumbers.{load_place}
use Rattle.returned.specs.Returned.{returned_with_place, returned_up_to}
use Rattle.kmer.specs.Loads.{LoadsInto, ListsInto}
use Rattle.kmer.specs.Demand.{Asked, Told, FileCalls, KeptFromC}
use Rattle.kmer.proofs.Refusals.{clear_small}
use Rattle.kmer.proofs.DemandThree.{kept_from_c}
use Rattle.settings.specs.Given.{the_settings}

-- What `kmer_load` returned and left is what a load answers and leaves.
pub load_from_c : (letters : List ℕ) (k m : ℕ) (text : List ℕ) {t t' : List ℕ} {r : ℕ} → LoadsInto (the_settings letters k m) text t r t'
    → (answer : Outcome ℕ) × (r ≡ returned_up_to answer) × Loads (the_settings letters k m) text t answer t'
load_from_c letters k m text R = (R.answer, R.returns, R.promised)

-- "After a load, every list of adds and withdrawals starts from the loaded counts."
pub kept_from_loaded_c : (letters : List ℕ) (k m : ℕ) (text : List ℕ) {t₀ t t' : List ℕ} {r : ℕ} {asked : List Asked} {told : List Told}
    → load_ground (the_settings letters k m) (length t₀) text ≡ None
    → LoadsInto (the_settings letters k m) text t₀ r t
    → FileCalls (the_settings letters k m) t asked told t'
    → KeptFromC (the_settings letters k m) (loaded_book (the_settings letters k m) text) t t' asked told
unfolding load_ground
kept_from_loaded_c letters k m text {t₀} no-ground R calls =
    kept_from_c letters k m (loaded_book (the_settings letters k m) text) (settings_good letters k m (length t₀) (first_none (clear_ground (the_settings letters k m) (length t₀)) _ no-ground))
    (loaded_agrees letters k m text no-ground (load_from_c letters k m text R).2) calls

-- A P that fits is told whole.
told_whole : (n count : ℕ) (g : Option Ground) → Small n g → n < 2 ^ 55 → returned_up_to (outcome g count) ≡ returned_with_place (outcome g count)
told_whole n count None small h = refl
told_whole n count (Some f) small h = let e : min f.1 (2 ^ 55 - 1) ≡ f.1 = omega (arith, small f refl) in rw e

-- So is that of a text shorter than 2^55 bytes.
pub load_told : (letters : List ℕ) (k m : ℕ) (text : List ℕ) {t t' : List ℕ} {r : ℕ} → LoadsInto (the_settings letters k m) text t r t' → length text < 2 ^ 55
    → r ≡ returned_with_place (outcome (load_ground (the_settings letters k m) (length t) text) (class_count (the_settings letters k m)))
unfolding load_ground
load_told letters k m text {t} R h =
    let n : ℕ = 36028797018963967 in
    R.returns
    ∙ ap returned_up_to R.promised.answers
    ∙ told_whole n (class_count (the_settings letters k m)) (clear_ground (the_settings letters k m) (length t) or_else text_fault (the_settings letters k m) text)
    (then_small n (clear_ground (the_settings letters k m) (length t)) (text_fault (the_settings letters k m) text) (λ f e. omega (arith, clear_small letters k m (length t) f e))
    (λ _ f e. omega (arith, load_place letters k m text f e)))
    (omega arith)

-- ---- the two round trips, from C

-- What `kmer_listing` wrote, of r bytes, `kmer_load` takes, and the counts are the same.
pub loads_what_was_listed_c : (letters : List ℕ) (k m : ℕ) (t : List ℕ) {old new u₀ u : List ℕ} {r q : ℕ} → SmallCounts (counts (the_settings letters k m) t)
    → listing_ground (the_settings letters k m) t (length old) ≡ None
    → ListsInto (the_settings letters k m) t old r new
    → clear_ground (the_settings letters k m) (length u₀) ≡ None
    → LoadsInto (the_settings letters k m) (take r new) u₀ q u
    → (q ≡ class_count (the_settings letters k m)) × (counts (the_settings letters k m) u ≡ counts (the_settings letters k m) t)
loads_what_was_listed_c letters k m t {old} {new} {u₀} {u} {r} small no-ground L there R =
    let n = length (listing (the_settings letters k m) t) in
    let r-is : r ≡ n = L.returns ∙ ap returned_with_place L.promised.answers ∙ rw no-ground in
    let list : Lists (the_settings letters k m) t old (given r) new = record { answers = rw (no-ground, r-is); leaves = L.promised.leaves } in
    let (answer, told, load) = load_from_c letters k m (take r new) R in
    let (given-all, same) = loads_what_was_listed letters k m t small list there load in
    (told ∙ ap returned_up_to given-all, same)

-- A text that `kmer_load` took `kmer_listing` writes, where there is room for it.
pub lists_what_was_loaded_c : (letters : List ℕ) (k m : ℕ) (text : List ℕ) {t₀ t old new : List ℕ} {q r : ℕ}
    → load_ground (the_settings letters k m) (length t₀) text ≡ None
    → LoadsInto (the_settings letters k m) text t₀ q t
    → length text ≤ length old
    → ListsInto (the_settings letters k m) t old r new
    → (r ≡ length text) × (take (length text) new ≡ text)
lists_what_was_loaded_c letters k m text {t₀} {t} {old} {new} no-ground R room L =
    let load : Loads (the_settings letters k m) text t₀ (given (class_count (the_settings letters k m))) t = record { answers = rw no-ground; leaves = R.promised.leaves } in
    let (given-all, same) = lists_what_was_loaded letters k m text load room L.promised in
    (L.returns ∙ ap returned_with_place given-all, same)
