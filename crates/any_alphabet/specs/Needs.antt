-- What the kernel for every alphabet asks. No sentence of document 01 rests on it.
use Rattle.std.specs.Prelude.{◌≡◌, List, [], ◌∷◌, ℕ, ◌+◌, ◌-◌, ◌^◌, ◌≤◌, get_or}
use Rattle.std.specs.Coded.{×_prop, Unit-prop, le_prop}
use Rattle.settings.specs.Limits.{Limits}
use Rattle.encoding.specs.Words.{Mirror, Ranks, mirror_rank}
use Rattle.encoding.specs.Needs.{palindromes}

-- A table that has the powers of s up to s^k.
pub record Powers (s k : ℕ) (table : List ℕ) : Type 0 where
  pub at : (i : ℕ) → i ≤ k → get_or table i 0 ≡ s ^ i

-- n is the number of palindromes of k letters.
abbrev pub CountsPalindromes : ℕ → Mirror → ℕ → ℕ → Type 0
CountsPalindromes s m k n = n ≡ palindromes s m k

-- Ranks are below s in one way only, as is asked of what a type says of its values.
pub Ranks-prop : (s : ℕ) (w : List ℕ) → IsProp (Ranks s w)
Ranks-prop s [] = Unit-prop
Ranks-prop s (x ∷ xs) = ×_prop le_prop (Ranks-prop s xs)

-- Settings within the limits, their powers, and a list of ranks.
pub record Input (s k : ℕ) (powers d : List ℕ) : Type 0 where
  pub limits : Limits s k
  pub table : Powers s k powers
  pub ranks : Ranks s d

-- The outer letters of a window of k letters at place j, the last one as the mirror shows it.
pub record OuterPair (s : ℕ) (m : Mirror) (k : ℕ) (d : List ℕ) (j l r : ℕ) : Type 0 where
  pub two : 2 ≤ k
  pub first : l ≡ get_or d j 0
  pub last : r ≡ mirror_rank s m (get_or d (j + k - 1) 0)
