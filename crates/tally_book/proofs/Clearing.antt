-- The grounds of a clearing, which other calls on a table have too: the one that applies at each test (`clear_settings`, `clear_many`, `clear_short`,
-- `clear_passed`), and what is known where none does: the settings pass the check, the classes are at most 16,777,216, and each has a place. And the table after
-- a clearing: its first places, one a class, are 0, and it agrees with the cleared book. From the definitions in specs/Table.antt.
use Rattle.std.proofs.Common.{◌≡◌, refl, sym, ap, ◌∙◌, ℕ, zero, suc, ◌<◌, ◌≤◌, arith, None, Some, List, ◌++◌, length, drop, replicate, length-append, length-drop, drop_at, lt-ltb, le-ltb}
use lib.ListN.{length-replicate, get_or-replicate, get_or-append}
use Rattle.laws.proofs.Buffers.{front_is, front_fits}
use Rattle.settings.specs.declared.Checked.{Checked}
use Rattle.settings.specs.Grounds.{Ground, Outcome, given, refused, ground, ground_at, too_short, outcome, ◌or_else◌}
use Rattle.settings.specs.Settings.{settings_ground, settings_of}
use Rattle.settings.proofs.Outcomes.{refused_is, first_none, later_none, nowhere_met, not_too_large, room_enough}
use Rattle.settings.proofs.SettingsGrounds.{Known, known}
use Rattle.tally_book.specs.Table.{class_count, place_of, too_many, clear_ground, Clears}
use Rattle.tally_book.specs.Book.{cleared_book}
use Rattle.tally_book.specs.Demand.{sum, counts, Agrees}
use Rattle.tally_book.proofs.Classes.{place_below}
use Rattle.settings.specs.Given.{the_settings}

-- ---- the ground at each test

module _ (letters : List ℕ) (k m room : ℕ) where
  pub clear_settings : (f : Ground) → refused f ≡ outcome (settings_ground (the_settings letters k m)) (settings_of (the_settings letters k m)) → clear_ground (the_settings letters k m) room ≡ Some f
  unfolding clear_ground
  clear_settings f e = rw (refused_is f (settings_of (the_settings letters k m)) (settings_ground (the_settings letters k m)) e)

  module _ (st : Checked) (e : given st ≡ outcome (settings_ground (the_settings letters k m)) (settings_of (the_settings letters k m))) where
    good : Known letters k m st
    good = known letters k m st e

    pub clear_many : 16777216 < st.classes → clear_ground (the_settings letters k m) room ≡ Some (6, 0)
    unfolding clear_ground too_many
    clear_many h = rw (good.none_applies_lem, ← good.classes_are, lt-ltb 16777216 st.classes h)

    module _ (few : st.classes ≤ 16777216) where
      pub clear_short : room < st.classes → clear_ground (the_settings letters k m) room ≡ Some (7, st.classes)
      unfolding clear_ground too_many
      clear_short h =
          simp (good.none_applies_lem, sym good.classes_are, le-ltb 16777216 st.classes few, lt-ltb room st.classes h)

      pub clear_passed : st.classes ≤ room → clear_ground (the_settings letters k m) room ≡ None
      unfolding clear_ground too_many
      clear_passed long =
          let n = good.classes_are in
          rw (
            good.none_applies_lem,
            le-ltb 16777216 (class_count (the_settings letters k m)) (omega (arith, n)),
            le-ltb room (class_count (the_settings letters k m)) (omega (arith, n)),
          )

-- ---- where no ground refuses a clearing

module _ (letters : List ℕ) (k m room : ℕ) (no-ground : clear_ground (the_settings letters k m) room ≡ None) where
  -- The settings pass the check.
  pub settings_good : settings_ground (the_settings letters k m) ≡ None
  unfolding clear_ground
  settings_good = first_none (settings_ground (the_settings letters k m)) _ no-ground

  sizes : ground 6 (too_many (class_count (the_settings letters k m))) or_else ground_at 7 (too_short room (class_count (the_settings letters k m))) ≡ None
  unfolding clear_ground
  sizes = later_none (settings_ground (the_settings letters k m)) _ no-ground

  -- The classes are few enough for a table.
  pub classes_bounded : class_count (the_settings letters k m) ≤ 16777216
  unfolding too_many
  classes_bounded = not_too_large (class_count (the_settings letters k m)) (first_none (ground 6 (too_many (class_count (the_settings letters k m)))) _ sizes)

  -- The table has a place for each class.
  pub places_enough : class_count (the_settings letters k m) ≤ room
  places_enough =
      room_enough room (class_count (the_settings letters k m)) (nowhere_met 7 _ (later_none (ground 6 (too_many (class_count (the_settings letters k m)))) _ sizes))

-- ---- the table after such a clearing

sum_zeros : (n : ℕ) → sum (replicate n 0) ≡ 0
unfolding sum
sum_zeros zero = refl
sum_zeros (suc n) = omega (arith, sum_zeros n)

module _ (letters : List ℕ) (k m : ℕ) {t₀ t : List ℕ} {answer : Outcome ℕ} (no-ground : clear_ground (the_settings letters k m) (length t₀) ≡ None)
    (clearing : Clears (the_settings letters k m) t₀ answer t) where
  n_zeros : length {A = ℕ} (replicate (class_count (the_settings letters k m)) 0) ≡ class_count (the_settings letters k m)
  n_zeros = length-replicate {A = ℕ} (class_count (the_settings letters k m)) 0

  zeros : t ≡ replicate (class_count (the_settings letters k m)) 0 ++ drop (class_count (the_settings letters k m)) t₀
  zeros = clearing.leaves ∙ rw (no-ground, n_zeros)

  -- The table agrees with the cleared book.
  pub cleared_agrees : Agrees (the_settings letters k m) t cleared_book
  cleared_agrees =
      record {
        one_place_a_class = front_fits (replicate (class_count (the_settings letters k m)) 0) _ zeros n_zeros;
        each_count_is_its_class's_tally = λ w c.
            let lt = place_below letters k m (settings_good letters k m (length t₀) no-ground) w c.word in
            rw zeros
            (get_or-append (replicate (class_count (the_settings letters k m)) 0) (drop (class_count (the_settings letters k m)) t₀) 0 (place_of (the_settings letters k m) w) (omega (arith, n_zeros, lt))
            ∙ get_or-replicate (class_count (the_settings letters k m)) (place_of (the_settings letters k m) w) 0 0 lt);
      }

  -- The sum of its counts is 0.
  pub cleared_sum : sum (counts (the_settings letters k m) t) ≡ 0
  cleared_sum = ap sum (front_is (replicate (class_count (the_settings letters k m)) 0) _ zeros n_zeros) ∙ sum_zeros (class_count (the_settings letters k m))

  -- Later places are as they were.
  pub cleared_later : drop (class_count (the_settings letters k m)) t ≡ drop (class_count (the_settings letters k m)) t₀
  cleared_later = rw zeros (drop_at (replicate (class_count (the_settings letters k m)) 0) (drop (class_count (the_settings letters k m)) t₀) (class_count (the_settings letters k m)) n_zeros)

  -- The table is as long as it was.
  pub cleared_length : length t ≡ length t₀
  cleared_length =
      let n = length-append (replicate (class_count (the_settings letters k m)) 0) (drop (class_count (the_settings letters k m)) t₀) in
      ap length zeros ∙ omega (arith, n, n_zeros, length-drop (class_count (the_settings letters k m)) t₀, places_enough letters k m (length t₀) no-ground)
