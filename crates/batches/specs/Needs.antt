-- What the functions that count a file, or take it away, ask of each other and promise each other. No claim and no call of document 01 rests on it.
use Rattle.std.specs.Prelude.{◌≡◌, ℕ, ◌+◌, ◌-◌, ◌<◌, ◌≤◌, Bool, true, false, cond, List, [], ◌∷◌, ◌++◌, map, length, take, drop, Option, None, Some}
use Rattle.encoding.specs.Words.{Ranks}
use Rattle.encoding.specs.Codes.{code}
use Rattle.fasta.specs.declared.Item.{Item}
use Rattle.fasta.specs.declared.Item.TheVariants.{Opens, Skip, Stray, Letter}
use Rattle.fasta.specs.declared.Mode.{Mode}
use Rattle.fasta.specs.Items.{marks, windows_in}
use Rattle.fasta.specs.File.{items_from}
use Rattle.settings.specs.declared.RankTable.{RankTable}
use Rattle.settings.specs.RankTables.{rank_by_table, RanksBelow}
use Rattle.kernels.specs.declared.Coder.{Coder}
use Rattle.laws.specs.Windows.{windows}
use Rattle.batches.specs.declared.Mark.{Mark}
use Rattle.batches.specs.declared.Gathered.{Gathered}

-- ---- a file's letters, batch by batch

-- What a letter does to a run, by its rank: it is the run's next letter, or ends the run.
abbrev pub mark_of_rank : Option ℕ → Mark
mark_of_rank None = record { rank = 0; letters = 0; ends = true }
mark_of_rank (Some x) = record { rank = x; letters = 1; ends = false }

-- What an item does to a run.
abbrev pub mark_of : (ℕ → Option ℕ) → Item → Mark
mark_of rank Opens = record { rank = 0; letters = 0; ends = true }
mark_of rank Skip = record { rank = 0; letters = 0; ends = false }
mark_of rank Stray = record { rank = 0; letters = 0; ends = false }
mark_of rank (Letter b) = mark_of_rank (rank b)

-- The windows of what is to come, the letters r of the present run being at hand.
unfoldable pub cut : ℕ → (r : List ℕ) → List (Option ℕ) → List (List ℕ)
cut k r [] = windows k r
cut k r (None ∷ ms) = windows k r ++ cut k [] ms
cut k r (Some x ∷ ms) = cut k (r ++ (x ∷ [])) ms

-- The same of the bytes of a file from the place i on.
abbrev pub cut_from : (ℕ → Option ℕ) → ℕ → (r file : List ℕ) → Mode → ℕ → List (List ℕ)
cut_from rank k r file mode i = cut k r (marks rank (items_from mode (drop i file)))

-- What is to come where the run ended behind the letters r, and where it goes on.
abbrev pub cut_after : Bool → (ℕ → Option ℕ) → ℕ → (r file : List ℕ) → Mode → ℕ → List (List ℕ)
cut_after true rank k r file mode i = windows k r ++ cut_from rank k [] file mode i
cut_after false rank k r file mode i = cut_from rank k r file mode i

-- The codes of some words by a coder.
abbrev pub codes_by : Coder → List (List ℕ) → List ℕ
codes_by c ws = map (code c.s c.mirror c.k) ws

-- The codes of all windows of a file, whose first byte stands in a mode, by a coder.
abbrev pub codes_of_file : Coder → (file : List ℕ) → Mode → List ℕ
codes_of_file c file start = codes_by c (windows_in (rank_by_table c.ranks) c.k (items_from start file))

-- Letters were gathered, from the place i on behind the letters r: to the end of their run or of the file, or to the end of the array.
pub record Gathers (table : RankTable) (r file : List ℕ) (mode : Mode) (i : ℕ) (g : Gathered) (array : List ℕ) : Type 0 where
  pub on : i < g.at
  pub inside : g.at ≤ length file
  pub fits : g.letters ≤ length array
  pub ranks : (s : ℕ) → RanksBelow s table → Ranks s r → Ranks s (take g.letters array)
  pub windows_are : (k : ℕ)
      → cut_from (rank_by_table table) k r file mode i ≡ cut_after g.ended (rank_by_table table) k (take g.letters array) file g.mode g.at
  pub whole : g.ended ≡ false → g.letters ≡ length array

-- What is kept in the array of the n letters at its start.
pub record Carries (old : List ℕ) (n k : ℕ) (ended : Bool) (kept : ℕ) (new : List ℕ) : Type 0 where
  pub few : kept < k
  pub letters : take kept new ≡ cond ended [] (drop (n + 1 - k) (take n old))
