-- Document 01, "Sequence file (FASTA)" and "Codes along a sequence": the windows of letters in a row, which are cut from files and sequences.
use Rattle.std.specs.Prelude.{cond, List, [], ◌∷◌, ℕ, leb, length, take}

-- "its windows, k letters in a row from each start where they fit", in the order of their starts. "A sequence shorter than k has no windows."
unfoldable pub windows : ℕ → List ℕ → List (List ℕ)
windows k [] = []
windows k (x ∷ xs) = cond (leb k (length (x ∷ xs))) (take k (x ∷ xs) ∷ windows k xs) (windows k xs)
