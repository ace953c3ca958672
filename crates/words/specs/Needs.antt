-- What functions below the calls ask of each other and laws speak of; no sentence of document 01 rests on it: ranks by a function of bytes, and whether a
-- ground applies.
use Rattle.std.specs.Prelude.{◌≡◌, ◌<◌, length, get_or, drop, Bool, true, false, List, map, ℕ, Option, None, Some}
use Rattle.settings.specs.Grounds.{Ground}
use Rattle.encoding.specs.Calls.{rank_or_zero}

-- The ranks of bytes by a function that gives each byte's rank, 0 for a byte that has none.
unfoldable pub ranks_by : (ℕ → Option ℕ) → List ℕ → List ℕ
ranks_by rank bytes = map (λ (b : ℕ). rank_or_zero (rank b)) bytes

-- A list of which the first n places were written, each with what a function answers of the byte there; the later places are as they were.
pub record FilledBy (answers : ℕ → ℕ → Type 0) (bytes old new : List ℕ) (n : ℕ) : Type 0 where
  pub long : length new ≡ length old
  pub each : (i : ℕ) → i < n → answers (get_or bytes i 0) (get_or new i 0)
  pub rest : drop n new ≡ drop n old

-- ---- grounds

abbrev pub none_applies : Option Ground → Bool
none_applies None = true
none_applies (Some g) = false
