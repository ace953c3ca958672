-- What functions below the C calls ask of each other; no claim rests on it.
use Rattle.std.specs.Prelude.{ℕ, ◌^◌, ◌<◌}
use Rattle.settings.specs.Grounds.{Outcome, given, refused}

-- The P of a refusal is small, so that it fits beside its number.
abbrev pub PlaceFits : Outcome ℕ → Type 0
PlaceFits (given n) = Unit
PlaceFits (refused g) = g.1 < 2 ^ 32
