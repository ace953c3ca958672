-- The theorem letters = windows + foreign + edge, for all items, and so for files of both kinds, every rank function and every k from 1. A run's letters are its
-- windows and its edge letters (`run_split`); what stands in runs is the letters that are not foreign. Besides, a file has one item a byte
-- (`items-length`) and no more windows than bytes (`windows-fit`).
use Rattle.std.proofs.Common.{◌≡◌, refl, ap, ◌∙◌, ℕ, suc, ◌+◌, ◌≤◌, arith, Option, None, Some, List, [], ◌∷◌, length, length-append}
use Rattle.laws.proofs.Windows.{length-windows}
use Rattle.fasta.specs.declared.Item.{Item}
use Rattle.fasta.specs.declared.Item.TheVariants.{Opens, Skip, Stray, Letter}
use Rattle.fasta.specs.declared.Mode.{Mode}
use Rattle.fasta.specs.Items.{letters_in, foreign_in, one_if_foreign, marks, on_first, runs, edge, windows, edges_of, windows_of, windows_in, numbers_in}
use Rattle.fasta.specs.File.{next, items_from}

-- How many settings letters there are.
ranked : List (Option ℕ) → ℕ
ranked [] = 0
ranked (None ∷ ms) = ranked ms
ranked (Some x ∷ ms) = suc (ranked ms)

total : List (List ℕ) → ℕ
total [] = 0
total (r ∷ rs) = length r + total rs

total_on_first : (x : ℕ) (rs : List (List ℕ)) → total (on_first x rs) ≡ suc (total rs)
unfolding total on_first
total_on_first x [] = omega arith
total_on_first x (r ∷ rs) = omega arith

total_runs : (ms : List (Option ℕ)) → total (runs ms) ≡ ranked ms
unfolding total runs ranked
total_runs [] = omega arith
total_runs (None ∷ ms) = omega (arith, total_runs ms)
total_runs (Some x ∷ ms) = total_on_first x (runs ms) ∙ ap suc (total_runs ms)

letters_split : (rank : ℕ → Option ℕ) (is : List Item) → letters_in is ≡ ranked (marks rank is) + foreign_in rank is
unfolding letters_in ranked marks foreign_in one_if_foreign
letters_split rank [] = omega arith
letters_split rank (Opens ∷ is) = letters_split rank is
letters_split rank (Skip ∷ is) = letters_split rank is
letters_split rank (Stray ∷ is) = letters_split rank is
letters_split rank (Letter b ∷ is) = by_rank (rank b) (letters_split rank is)
  where
    by_rank : (o : Option ℕ) → letters_in is ≡ ranked (marks rank is) + foreign_in rank is
        → suc (letters_in is) ≡ ranked (o ∷ marks rank is) + (one_if_foreign o + foreign_in rank is)
    by_rank None h = omega arith
    by_rank (Some x) h = omega arith

-- "its windows .. are as many as the rest"
pub run_split : (k : ℕ) (r : List ℕ) → 1 ≤ k → length (windows k r) + edge k r ≡ length r
unfolding edge
run_split k r h = omega (arith, length-windows k h r)

runs-split : (k : ℕ) (rs : List (List ℕ)) → 1 ≤ k → length (windows_of k rs) + edges_of k rs ≡ total rs
unfolding windows_of edges_of total
runs-split k [] h = omega arith
runs-split k (r ∷ rs) h = omega (arith, length-append (windows k r) (windows_of k rs), run_split k r h, runs-split k rs h)

-- "So letters = windows + foreign + edge": of any items, and so of files of both kinds.
pub letters_are : (rank : ℕ → Option ℕ) (k : ℕ) (is : List Item) → 1 ≤ k
    → (numbers_in rank k is).letters ≡ (numbers_in rank k is).windows + (numbers_in rank k is).foreign + (numbers_in rank k is).edge
letters_are rank k is h = omega (arith, letters_split rank is, total_runs (marks rank is), runs-split k (runs (marks rank is)) h)

-- ---- no number of a file is above its length

letters_fit : (is : List Item) → letters_in is ≤ length is
unfolding letters_in
letters_fit [] = omega arith
letters_fit (Opens ∷ is) = omega (arith, letters_fit is)
letters_fit (Skip ∷ is) = omega (arith, letters_fit is)
letters_fit (Stray ∷ is) = omega (arith, letters_fit is)
letters_fit (Letter b ∷ is) = omega (arith, letters_fit is)

-- One item a byte.
pub items-length : (m : Mode) (file : List ℕ) → length (items_from m file) ≡ length file
unfolding items_from
items-length m [] = refl
items-length m (b ∷ file) = ap suc (items-length (next m b) file)

-- Bytes have no more windows than they are.
pub windows-fit : (rank : ℕ → Option ℕ) (k : ℕ) (m : Mode) (file : List ℕ) → 1 ≤ k → length (windows_in rank k (items_from m file)) ≤ length file
windows-fit rank k m file h = omega (arith, letters_are rank k (items_from m file) h, letters_fit (items_from m file), items-length m file)
