-- What functions that look letters up ask of a table of all bytes' ranks. It is made once a call; no sentence of document 01 rests on it.
use Rattle.std.specs.Prelude.{◌≡◌, cond, List, ℕ, ◌<◌, eqb, get_or}
use Rattle.std.specs.Prelude.{Option, None, Some}
use Rattle.settings.specs.Settings.{rank_in}
use Rattle.settings.specs.declared.RankTable.{RankTable}

-- A byte that holds a rank, or 255 for none: the settings have at most 16 letters.
unfoldable pub as_rank : ℕ → Option ℕ
as_rank x = cond (eqb x 255) None (Some x)

-- The rank of b by a table.
abbrev pub rank_by_table : RankTable → ℕ → Option ℕ
rank_by_table table b = as_rank (get_or table.bytes b 0)

-- A table that has the rank of every byte.
pub record RanksOf (letters : List ℕ) (table : RankTable) : Type 0 where
  pub same : (b : ℕ) → b < 256 → rank_by_table table b ≡ rank_in letters b

-- A table whose ranks are all below s.
pub record RanksBelow (s : ℕ) (table : RankTable) : Type 0 where
  pub below : (b x : ℕ) → b < 256 → rank_by_table table b ≡ Some x → x < s
