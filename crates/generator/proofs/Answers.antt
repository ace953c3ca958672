-- What the call answers and leaves at each of its tests. From the length that is worked out, the grounds by it, and the records that are written.
use Rattle.std.proofs.Common.{◌≡◌, ℕ, ◌<◌, ◌≤◌, min, List, length, arith, None}
use Rattle.settings.specs.Grounds.{Ground, given, refused, ground, ground_at, too_short, outcome, ◌or_else◌}
use Rattle.settings.specs.Settings.{settings_ground, settings_of}
use Rattle.settings.proofs.Outcomes.{kept_by, kept_on, set_by}
use Rattle.settings.proofs.SettingsGrounds.{good_settings}
use Rattle.settings.specs.Limits.{too_long}
use Rattle.testload.specs.TestLoad.{test_load, generate_ground, Generates}
use Rattle.testload.proofs.Theorems.{larger_gives_6, short_buffer_gives_7, room_gives_none}
use Rattle.texts.specs.Needs.{Puts}
use Rattle.texts.proofs.Writing.{from_start}
use Rattle.generator.specs.Needs.{SomeLetters, records_length}
use Rattle.generator.proofs.Lengths.{length-records}
use Rattle.settings.specs.Given.{the_settings}

pub some_letters : (letters : List ℕ) (k m : ℕ) → settings_ground (the_settings letters k m) ≡ None → SomeLetters letters
some_letters letters k m good = let g = good_settings letters k m good in record { some = omega (arith, g.two); few = g.few }

module _ (letters : List ℕ) (k m start records each : ℕ) (old : List ℕ) where
  abbrev text : List ℕ
  text = test_load letters start records each

  pub settings_refused : (f : Ground) → refused f ≡ outcome (settings_ground (the_settings letters k m)) (settings_of (the_settings letters k m))
      → Generates (the_settings letters k m) text old (refused f) old
  unfolding generate_ground
  settings_refused f e =
      kept_on f (settings_of (the_settings letters k m)) (settings_ground (the_settings letters k m)) (ground 6 (too_long text) or_else ground_at 7 (too_short (length old) (length text)))
      (length text) text old e

  module _ (good : settings_ground (the_settings letters k m) ≡ None) (needed : ℕ) (is : min needed 16777217 ≡ min (records_length each 1 records) 16777217) where
    pub too_large : 16777216 < needed → Generates (the_settings letters k m) text old (refused (6, 0)) old
    too_large h =
        kept_by _ (length text) text old (6, 0) (larger_gives_6 letters k m good text (length old) (omega (arith, is, length-records letters each 1 records start)))

    module _ (small : needed ≤ 16777216) where
      length_is : length text ≡ needed
      length_is = omega (arith, is, length-records letters each 1 records start)

      short_text : length text ≤ 16777216
      short_text = omega (arith, length_is)

      pub short_buffer : length old < needed → Generates (the_settings letters k m) text old (refused (7, needed)) old
      short_buffer h =
          rw (← length_is)
          (kept_by _ (length text) text old (7, length text) (short_buffer_gives_7 letters k m good text (length old) short_text (omega (arith, length_is))))

      module _ (room : needed ≤ length old) where
        pub written : {new : List ℕ} {r : ℕ} → Puts old new 0 r text → Generates (the_settings letters k m) text old (given needed) new
        written {new} P =
            rw (← length_is)
            (set_by _ (length text) text old new (room_gives_none letters k m good text (length old) short_text (omega (arith, length_is)))
            (from_start P (omega (arith, length_is))))
