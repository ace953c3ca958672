-- What laws of lines, and functions below the calls, speak of; no sentence of the documents rests on it.
use Rattle.std.specs.Prelude.{◌≡◌, Bool, true, cond, List, [], ◌∷◌, ◌++◌, ℕ, ◌<◌, ◌≤◌, length, get_or, eqb}

-- The first line of a text, with its end; [] where the text has none.
unfoldable pub first_line : List ℕ → List ℕ
first_line [] = []
first_line (b ∷ bs) = b ∷ cond (eqb b 10) [] (first_line bs)

-- Lines as one text.
unfoldable pub joined : List (List ℕ) → List ℕ
joined [] = []
joined (l ∷ ls) = l ++ joined ls

-- No byte from i up to e is LF.
pub record NoLf (text : List ℕ) (i e : ℕ) : Type 0 where
  pub on : i ≤ e
  pub inside : i ≤ length text → e ≤ length text
  pub bytes : (j : ℕ) → i ≤ j → j < e → get_or text j 0 ≡ 10 → ⊥

-- e is the place of the first LF from i on, or the text's end.
pub record LineEnd (text : List ℕ) (i e : ℕ) : Type 0 where
  pub none_before : NoLf text i e
  pub there : e < length text → get_or text e 0 ≡ 10

-- Each byte below a place passes, by what a test may answer.
abbrev pub AllPass : (ℕ → Bool → Type 0) → List ℕ → ℕ → Type 0
AllPass test text e = (k : ℕ) → k < e → test (get_or text k 0) true
