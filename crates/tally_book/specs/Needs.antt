-- What the laws of the table, and functions of the crates counts and batches, speak of; no sentence of document 01 rests on it.
use Rattle.std.specs.Prelude.{ℕ, ◌<◌}

-- q is below n.
abbrev pub Below : ℕ → ℕ → Type 0
Below n q = q < n
