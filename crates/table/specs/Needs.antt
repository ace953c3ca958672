-- What functions below the calls promise each other. No claim and no call of document 01 rests on it.
use Rattle.std.specs.Prelude.{ℕ, Option}
use Rattle.settings.specs.Grounds.{Ground, ground, ground_at, too_short, ◌or_else◌}
use Rattle.tally_book.specs.Table.{too_many}

-- The grounds 6 and 7 of a table that has this room and needs a place for each of so many classes.
abbrev pub room_ground : (classes room : ℕ) → Option Ground
room_ground classes room = ground 6 (too_many classes) or_else ground_at 7 (too_short room classes)
