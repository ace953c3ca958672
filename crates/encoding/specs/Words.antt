-- Document 01, "Letters, k and mirror": a word, its mirror, its plain rank, its canonical word.
-- A word is the list of its letters' ranks, first letter first. Throughout, s is the number of letters and m the mirror.
use Rattle.std.specs.Prelude.{◌≡◌, cond, List, [], ◌∷◌, map, reverse, ℕ, ◌+◌, ◌-◌, ◌*◌, ◌^◌, ◌<◌, length, leb}
use Rattle.laws.specs.Each.{Each}
pub use Rattle.settings.specs.declared.Mirror.{Mirror}
pub use Rattle.settings.specs.declared.Mirror.TheVariants.{Reversal, Complement}

-- Each rank is below s.
abbrev pub Ranks : ℕ → List ℕ → Type 0
Ranks s w = Each (λ (a : ℕ). a < s) w

-- "A word is k letters."
pub record IsWord (s k : ℕ) (w : List ℕ) : Type 0 where
  pub letters : length w ≡ k
  pub ranks : Ranks s w

-- "replace rank i by s − 1 − i": what the mirror makes of one rank. "With odd s the middle rank is then its own mirror" (document 02, K10).
unfoldable pub mirror_rank : ℕ → Mirror → ℕ → ℕ
mirror_rank s Reversal i = i
mirror_rank s Complement i = s - 1 - i

-- "Mirror 0 is reversal. Mirror 1 is reverse complement: reverse the word and replace rank i by s − 1 − i"
unfoldable pub mirror : ℕ → Mirror → List ℕ → List ℕ
mirror s m w = map (mirror_rank s m) (reverse w)

-- "Its plain rank reads the ranks as base-s digits, first letter highest." The same reading gives the value of a code's digits.
unfoldable pub plain : ℕ → List ℕ → ℕ
plain s [] = 0
plain s (a ∷ w) = a * s ^ length w + plain s w

-- "The canonical word is the one of lower plain rank."
unfoldable pub canonical : ℕ → Mirror → List ℕ → List ℕ
canonical s m w = cond (leb (plain s w) (plain s (mirror s m w))) w (mirror s m w)

-- "A palindrome equals its mirror."
abbrev pub Palindrome : ℕ → Mirror → List ℕ → Type 0
Palindrome s m w = mirror s m w ≡ w
