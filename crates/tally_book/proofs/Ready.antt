-- What is known where no ground applies before a file is read: the settings pass the check, and the table has a place for each class. From `ready_ground`.
use Rattle.std.proofs.Common.{◌≡◌, ℕ, ◌≤◌, ◌||◌, None, List}
use Rattle.settings.specs.Grounds.{ground}
use Rattle.settings.specs.Settings.{settings_ground}
use Rattle.settings.proofs.Outcomes.{first_none, later_none, nowhere_met, room_enough}
use Rattle.settings.specs.Limits.{too_long}
use Rattle.tally_book.specs.Table.{class_count, too_many, ready_ground}
use Rattle.settings.specs.Given.{the_settings}

module _ (letters : List ℕ) (k m room : ℕ) (bytes : List ℕ) (ready : ready_ground (the_settings letters k m) room bytes ≡ None) where
  -- The settings pass the check.
  pub ready_settings : settings_ground (the_settings letters k m) ≡ None
  unfolding ready_ground
  ready_settings = first_none (settings_ground (the_settings letters k m)) _ ready

  -- The table has a place for each class.
  pub ready_room : class_count (the_settings letters k m) ≤ room
  unfolding ready_ground
  ready_room =
      let sizes = later_none (settings_ground (the_settings letters k m)) _ ready in
      let g7 = later_none (ground 6 (too_long bytes || too_many (class_count (the_settings letters k m)))) _ sizes in
      room_enough room (class_count (the_settings letters k m)) (nowhere_met 7 _ g7)
