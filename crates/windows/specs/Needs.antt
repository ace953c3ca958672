-- How a kernel writes the codes of windows. No sentence of document 01 rests on it; the contracts of the kernels do.
use Rattle.std.specs.Prelude.{◌≡◌, List, ◌++◌, ℕ, length, drop}

-- A lent list after its first places were written: the new numbers, then the old places.
pub record Fills (places old new : List ℕ) : Type 0 where
  pub is : new ≡ places ++ drop (length places) old
