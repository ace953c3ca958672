-- What the C calls return as one 64-bit number: document 01, "Listing and counter program", last paragraph. `kmer_load` is document 02's, K7.
use Rattle.std.specs.Prelude.{◌≡◌, ℕ, ◌+◌, ◌-◌, ◌*◌, ◌^◌, min}
use Rattle.settings.specs.Grounds.{Outcome, given, refused}

-- "Coding returns the code, reading returns k, and either returns 2^63 plus the number when refused, without P."
abbrev pub returned : Outcome ℕ → ℕ
returned (given n) = n
returned (refused g) = 2 ^ 63 + g.0

-- Our further calls return P as well: 2^63 + P * 256 + the number.
abbrev pub returned_with_place : Outcome ℕ → ℕ
returned_with_place (given n) = n
returned_with_place (refused g) = 2 ^ 63 + g.1 * 256 + g.0

-- `kmer_load` reads a text of any length: a P that does not fit beside the number is told as the largest that does, 2^55 - 1.
abbrev pub returned_up_to : Outcome ℕ → ℕ
returned_up_to (given n) = n
returned_up_to (refused g) = 2 ^ 63 + min g.1 (2 ^ 55 - 1) * 256 + g.0

-- The contract of a C call that overwrites a lent buffer, read off `Promise`, that of the call below it, which speaks of the answer and of the lent places: the
-- answer becomes one number, by `returned`, by `returned_with_place` or by `returned_up_to`. Each `Promise` used is an `Overwrites`, which only one answer meets; so r
-- is fixed.
pub record Returns (number : Outcome ℕ → ℕ) (Promise : Outcome ℕ → Type 0) (r : ℕ) : Type 0 where
  pub answer : Outcome ℕ
  pub promised : Promise answer
  pub returns : r ≡ number answer
