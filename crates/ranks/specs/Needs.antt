-- What functions on words of ranks ask and laws speak of; no sentence of document 01 rests on it: parts of a word, and words whose plain rank fits 62 bits.
use Rattle.std.specs.Prelude.{List, ℕ, ◌^◌, ◌<◌, ◌≤◌, length, take, drop}
use Rattle.encoding.specs.Words.{Ranks}

-- n letters of w from place i.
abbrev pub part : ℕ → ℕ → List ℕ → List ℕ
part i n w = take n (drop i w)

-- A word of ranks whose plain rank fits.
pub record FitWord (s : ℕ) (w : List ℕ) : Type 0 where
  pub two : 1 < s
  pub ranks : Ranks s w
  pub small : s ^ length w ≤ 2 ^ 62
