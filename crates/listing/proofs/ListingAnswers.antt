-- What the listing answers and leaves at each of its tests; and how long the listing of a table is, where it is not refused (`listing-fits`).
use Rattle.std.proofs.Common.{◌≡◌, refl, ◌∙◌, ℕ, zero, suc, ◌<◌, ◌≤◌, arith, None, Some, List, [], ◌∷◌, length, take, length-take-le, lt-ltb, le-ltb}
use Rattle.settings.specs.declared.Checked.{Checked}
use Rattle.settings.specs.Grounds.{Ground, Outcome, given, refused, outcome}
use Rattle.settings.specs.Settings.{settings_ground, settings_of}
use Rattle.settings.proofs.Outcomes.{kept_by, set_by}
use Rattle.settings.proofs.SettingsGrounds.{known}
use Rattle.tally_book.specs.Table.{class_count, clear_ground}
use Rattle.tally_book.proofs.Clearing.{clear_settings, clear_many, clear_short, clear_passed, settings_good, classes_bounded, places_enough}
use Rattle.texts.specs.Needs.{Puts}
use Rattle.texts.proofs.Writing.{from_start}
use Rattle.listing.specs.Listing.{listing_of, listing, listing_ground, Lists}
use Rattle.listing.specs.Needs.{AllCounts, ListsCounts, longest}
use Rattle.listing.proofs.Lengths.{SmallCounts, listing_length}
use Rattle.settings.specs.Given.{the_settings}

-- ---- a text that is written whole or not at all

module _ {text old : List ℕ} {needed : ℕ} (needed_is : needed ≡ length text) where
  pub text_short : length old < needed → ListsCounts text old (refused (7, needed)) old
  text_short h = rw (← needed_is) (kept_by _ needed text old (7, needed) (rw (lt-ltb (length old) needed h)))

  pub text_written : {new : List ℕ} {r : ℕ} → needed ≤ length old → Puts old new 0 r text → ListsCounts text old (given needed) new
  text_written {new} h P =
      let fits : length text ≤ length old = omega (arith, needed_is) in
      rw needed_is (set_by _ (length text) text old new (rw (le-ltb (length old) (length text) fits)) (from_start P fits))

-- ---- the call

-- The first q places of a table, one a class, are the counts of all classes.
pub all_counts : (letters : List ℕ) (k m q : ℕ) (t : List ℕ) → settings_ground (the_settings letters k m) ≡ None → q ≡ class_count (the_settings letters k m) → q ≤ 16777216 → q ≤ length t
    → AllCounts (the_settings letters k m) (take q t)
all_counts letters k m q t good q_is few long =
    let n = length-take-le q t long in
    record { good = good; one_a_class = n ∙ q_is; few = omega (arith, n) }

-- The same with settings that the check gave.
pub table_counts : (letters : List ℕ) (k m : ℕ) (table : List ℕ) (st : Checked) → given st ≡ outcome (settings_ground (the_settings letters k m)) (settings_of (the_settings letters k m))
    → st.classes ≤ 16777216
    → st.classes ≤ length table
    → AllCounts (the_settings letters k m) (take st.classes table)
table_counts letters k m table st e few long =
    let good = known letters k m st e in
    all_counts letters k m st.classes table good.none_applies_lem good.classes_are few long

module _ (letters : List ℕ) (k m : ℕ) (table old : List ℕ) where
  refused_by : (f : Ground) → listing_ground (the_settings letters k m) table (length old) ≡ Some f → Lists (the_settings letters k m) table old (refused f) old
  refused_by f e = kept_by _ (length (listing (the_settings letters k m) table)) (listing (the_settings letters k m) table) old f e

  pub settings_refused : (f : Ground) → refused f ≡ outcome (settings_ground (the_settings letters k m)) (settings_of (the_settings letters k m)) → Lists (the_settings letters k m) table old (refused f) old
  unfolding listing_ground
  settings_refused f e = refused_by f (rw (clear_settings letters k m (length table) f e))

  module _ (st : Checked) (e : given st ≡ outcome (settings_ground (the_settings letters k m)) (settings_of (the_settings letters k m))) where
    pub many_classes : 16777216 < st.classes → Lists (the_settings letters k m) table old (refused (6, 0)) old
    unfolding listing_ground
    many_classes h = refused_by (6, 0) (rw (clear_many letters k m (length table) st e h))

    module _ (few : st.classes ≤ 16777216) where
      pub short_table : length table < st.classes → Lists (the_settings letters k m) table old (refused (7, st.classes)) old
      unfolding listing_ground
      short_table h = refused_by (7, st.classes) (rw (clear_short letters k m (length table) st e few h))

      pub listed : {answer : Outcome ℕ} {new : List ℕ} → st.classes ≤ length table
          → ListsCounts (listing_of (the_settings letters k m) (take st.classes table)) old answer new
          → Lists (the_settings letters k m) table old answer new
      unfolding listing_ground
      listed long L = rw (clear_passed letters k m (length table) st e few long) (rw (known letters k m st e).classes_are at L)

-- ---- how long the listing of a table is

small_take : (n : ℕ) (xs : List ℕ) → SmallCounts xs → SmallCounts (take n xs)
small_take zero xs h i = omega arith
small_take (suc n) [] h i = omega arith
small_take (suc n) (x ∷ xs) h zero = h 0
small_take (suc n) (x ∷ xs) h (suc i) = small_take n xs (λ j. h (suc j)) i

-- Where the grounds before the text's do not apply, a listing has no more bytes than `longest` gives for 16,777,216 classes.
pub listing-fits : (letters : List ℕ) (k m : ℕ) (table : List ℕ) → clear_ground (the_settings letters k m) (length table) ≡ None → SmallCounts table
    → length (listing (the_settings letters k m) table) ≤ longest 16777216
listing-fits letters k m table passed small =
    let n = class_count (the_settings letters k m) in
    let good = settings_good letters k m _ passed in
    let all = all_counts letters k m n table good refl (classes_bounded letters k m _ passed) (places_enough letters k m _ passed) in
    omega (arith, listing_length letters k m (take n table) all (small_take n table small), all.few)
