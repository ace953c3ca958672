-- Document 01, "Sequence file (FASTA)": what is counted in a file and cut from it, once it is known what each of its bytes is.
-- Nothing here depends on the file's kind. `rank` gives a letter's rank in the settings, none for a letter not in them.
use Rattle.std.specs.Prelude.{ℕ, suc, ◌+◌, ◌-◌, min, List, [], ◌∷◌, ◌++◌, length, Option, None, Some}
unfoldable pub use Rattle.laws.specs.Windows.{windows}
unfoldable pub use Rattle.lines.specs.Lines.{on_first}
use Rattle.fasta.specs.declared.Item.{Item}
use Rattle.fasta.specs.declared.Item.TheVariants.{Opens, Skip, Stray, Letter}
use Rattle.fasta.specs.declared.Numbers.{Numbers}

-- "its records (header lines)"
unfoldable pub records_in : List Item → ℕ
records_in [] = 0
records_in (Opens ∷ is) = suc (records_in is)
records_in (Skip ∷ is) = records_in is
records_in (Stray ∷ is) = records_in is
records_in (Letter b ∷ is) = records_in is

-- "letters (foreign ones too)"
unfoldable pub letters_in : List Item → ℕ
letters_in [] = 0
letters_in (Opens ∷ is) = letters_in is
letters_in (Skip ∷ is) = letters_in is
letters_in (Stray ∷ is) = letters_in is
letters_in (Letter b ∷ is) = suc (letters_in is)

-- "A letter not in the settings is foreign": one that has no rank.
unfoldable pub one_if_foreign : Option ℕ → ℕ
one_if_foreign None = 1
one_if_foreign (Some x) = 0

unfoldable pub foreign_in : (ℕ → Option ℕ) → List Item → ℕ
foreign_in rank [] = 0
foreign_in rank (Opens ∷ is) = foreign_in rank is
foreign_in rank (Skip ∷ is) = foreign_in rank is
foreign_in rank (Stray ∷ is) = foreign_in rank is
foreign_in rank (Letter b ∷ is) = one_if_foreign (rank b) + foreign_in rank is

-- The settings letters as their ranks, and none where a run is broken: "Windows run over line ends, never over a record's end or a
-- foreign letter."
unfoldable pub marks : (ℕ → Option ℕ) → List Item → List (Option ℕ)
marks rank [] = []
marks rank (Opens ∷ is) = None ∷ marks rank is
marks rank (Skip ∷ is) = marks rank is
marks rank (Stray ∷ is) = marks rank is
marks rank (Letter b ∷ is) = rank b ∷ marks rank is

-- "A run is a longest stretch of settings letters in one record between foreign letters": what stands between the breaks. Where two
-- breaks stand side by side there is an empty one, which has neither window nor edge letter.
unfoldable pub runs : List (Option ℕ) → List (List ℕ)
runs [] = [] ∷ []
runs (None ∷ ms) = [] ∷ runs ms
runs (Some x ∷ ms) = on_first x (runs ms)

-- "Its edge letters are the lesser of its length and k − 1"
unfoldable pub edge : ℕ → List ℕ → ℕ
edge k run = min (length run) (k - 1)

-- "edge and windows over all runs"
unfoldable pub edges_of : ℕ → List (List ℕ) → ℕ
edges_of k [] = 0
edges_of k (r ∷ rs) = edge k r + edges_of k rs

unfoldable pub windows_of : ℕ → List (List ℕ) → List (List ℕ)
windows_of k [] = []
windows_of k (r ∷ rs) = windows k r ++ windows_of k rs

abbrev pub edge_in : (ℕ → Option ℕ) → ℕ → List Item → ℕ
edge_in rank k is = edges_of k (runs (marks rank is))

abbrev pub windows_in : (ℕ → Option ℕ) → ℕ → List Item → List (List ℕ)
windows_in rank k is = windows_of k (runs (marks rank is))

-- The five numbers that "each table call on a file answers with".
abbrev pub numbers_in : (ℕ → Option ℕ) → ℕ → List Item → Numbers
numbers_in rank k is =
    record {
      records = records_in is;
      letters = letters_in is;
      foreign = foreign_in rank is;
      edge = edge_in rank k is;
      windows = length (windows_in rank k is);
    }
