-- The grounds of the word calls, test by test, once the settings have passed their check: the first that applies, or none.
use Rattle.std.proofs.Common.{◌≡◌, sym, Option, None, Some, List, ℕ, ◌<◌, ◌≤◌, length, eqb-true, le-ltb, lt-ltb}
use Rattle.std.proofs.lemmas.Bool.{not-false}
use Rattle.settings.specs.Grounds.{Ground, ground, ground_at, too_short}
use Rattle.settings.specs.Settings.{settings_ground, classes, mirror_of}
use Rattle.settings.proofs.Outcomes.{test_fails, nowhere_met, room_enough}
use Rattle.encoding.specs.Calls.{code_ground, foreign_from, read_ground, mirror_ground, wrong_length}
use Rattle.settings.specs.Given.{the_settings}

-- ---- what it means that one of them does not apply

pub length_right : (k : ℕ) (word : List ℕ) → None ≡ ground 5 (wrong_length k word) → length word ≡ k
length_right k word e = eqb-true (length word) k (not-false _ (test_fails 5 (wrong_length k word) (sym e)))

pub room_there : (room k : ℕ) → None ≡ ground_at 7 (too_short room k) → k ≤ room
room_there room k e = room_enough room k (nowhere_met 7 (too_short room k) (sym e))

module _ (letters : List ℕ) (k m : ℕ) (passed : settings_ground (the_settings letters k m) ≡ None) where
  -- ---- coding

  module _ (word : List ℕ) where
    pub code_length : (f : Ground) → Some f ≡ ground 5 (wrong_length k word) → code_ground (the_settings letters k m) word ≡ Some f
    unfolding code_ground
    code_length f e = rw (passed, ← e)

    -- Ground 9, if it applies.
    pub code_foreign : None ≡ ground 5 (wrong_length k word) → (g : Option Ground) → g ≡ ground_at 9 (foreign_from letters 0 word) → code_ground (the_settings letters k m) word ≡ g
    unfolding code_ground
    code_foreign right g e = rw (passed, ← right, ← e)

  -- ---- reading

  pub read_short : (q room : ℕ) (f : Ground) → Some f ≡ ground_at 7 (too_short room k) → read_ground (the_settings letters k m) q room ≡ Some f
  unfolding read_ground
  read_short q room f e = rw (passed, ← e)

  pub read_no_code : (q room : ℕ) → None ≡ ground_at 7 (too_short room k) → classes (length letters) (mirror_of m) k ≤ q → read_ground (the_settings letters k m) q room ≡ Some (8, 0)
  unfolding read_ground
  read_no_code q room there g = rw (passed, ← there, le-ltb q (classes (length letters) (mirror_of m) k) g)

  pub reading_none : (q room : ℕ) → k ≤ room → q < classes (length letters) (mirror_of m) k → read_ground (the_settings letters k m) q room ≡ None
  unfolding read_ground
  reading_none q room h g = rw (passed, le-ltb room k h, lt-ltb q (classes (length letters) (mirror_of m) k) g)

  -- ---- mirroring

  module _ (word : List ℕ) (room : ℕ) where
    pub mirror-length : (f : Ground) → Some f ≡ ground 5 (wrong_length k word) → mirror_ground (the_settings letters k m) word room ≡ Some f
    unfolding mirror_ground
    mirror-length f e = rw (passed, ← e)

    module _ (right : None ≡ ground 5 (wrong_length k word)) where
      pub mirror_short : (f : Ground) → Some f ≡ ground_at 7 (too_short room k) → mirror_ground (the_settings letters k m) word room ≡ Some f
      unfolding mirror_ground
      mirror_short f e = rw (passed, ← right, ← e)

      -- Ground 9, if it applies.
      pub mirror_foreign : None ≡ ground_at 7 (too_short room k) → (g : Option Ground) → g ≡ ground_at 9 (foreign_from letters 0 word)
          → mirror_ground (the_settings letters k m) word room ≡ g
      unfolding mirror_ground
      mirror_foreign there g e = rw (passed, ← right, ← there, ← e)
