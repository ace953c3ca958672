-- What functions below the calls along a sequence ask of each other and promise each other; the contracts of `codes` and `codes_two_bit` do not rest on it:
-- the ranks and codes of bytes by a table of ranks, and the windows with a byte that is no letter.
use Rattle.std.specs.Prelude.{◌≡◌, Bool, true, false, cond, ◌&&◌, List, [], ◌∷◌, map, ℕ, ◌+◌, ◌<◌, ◌≤◌, length, get_or, Option, is_some}
use Rattle.settings.specs.declared.RankTable.{RankTable}
use Rattle.settings.specs.RankTables.{rank_by_table}
use Rattle.encoding.specs.Words.{Mirror}
use Rattle.encoding.specs.Codes.{code}
use Rattle.ranks.specs.Needs.{part}
use Rattle.words.specs.Needs.{ranks_by}
use Rattle.laws.specs.Windows.{windows}
use Rattle.kernels.specs.declared.Coder.{Coder}
use Rattle.sequence.specs.Sequences.{no_code}

-- Whether a function that gives each byte's rank has one for every byte.
unfoldable pub all_ranked : (ℕ → Option ℕ) → List ℕ → Bool
all_ranked rank [] = true
all_ranked rank (b ∷ bs) = is_some (rank b) && all_ranked rank bs

-- The number of a window of bytes by such a function.
unfoldable pub code_by : (ℕ → Option ℕ) → ℕ → Mirror → ℕ → List ℕ → ℕ
code_by rank s m k word = cond (all_ranked rank word) (code s m k (ranks_by rank word)) no_code

-- The numbers of the windows of some bytes by a coder.
abbrev pub codes_by : Coder → List ℕ → List ℕ
codes_by c bytes = map (code_by (rank_by_table c.ranks) c.s c.mirror c.k) (windows c.k bytes)

-- The last `run` of the first i bytes are letters, and the one before them is none.
pub record Run (table : RankTable) (bytes : List ℕ) (i run : ℕ) : Type 0 where
  pub upto : run ≤ i
  pub letters : (p : ℕ) → i ≤ p + run → p < i → is_some (rank_by_table table (get_or bytes p 0)) ≡ true
  pub stop : (p : ℕ) → p + run + 1 ≡ i → is_some (rank_by_table table (get_or bytes p 0)) ≡ false

-- The first n places of a list that had one number for each window: those of the windows with a byte that is no letter were overwritten.
pub record Blanked (table : RankTable) (k : ℕ) (bytes old new : List ℕ) (n : ℕ) : Type 0 where
  pub kept_length : length new ≡ length old
  pub at : (j : ℕ) → j < n → get_or new j 0 ≡ cond (all_ranked (rank_by_table table) (part j k bytes)) (get_or old j 0) no_code
  pub later : (j : ℕ) → n ≤ j → get_or new j 0 ≡ get_or old j 0
