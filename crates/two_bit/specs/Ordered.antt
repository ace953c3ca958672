-- What the kernel by two-bit numbers keeps of a window. No sentence of document 01 rests on it.
use Rattle.std.specs.Prelude.{◌≡◌, ℕ, ◌^◌, ◌<◌, ◌≤◌}
use Rattle.encoding.specs.Words.{Complement, mirror, plain}
use Rattle.encoding.specs.WordsOfCodes.{word_of_plain}
use Rattle.encoding.specs.Codes.{code}
use Rattle.two_bit.specs.Needs.{Differ}
use Rattle.two_bit.specs.declared.Ordered.{Ordered}

-- The lower number is the plain rank of a canonical word of k letters, the higher one that of its mirror.
pub record Canonical (k : ℕ) (o : Ordered) : Type 0 where
  pub below : o.lower < 4 ^ k
  pub order : o.lower ≤ o.higher
  pub mirrored : o.higher ≡ plain 4 (mirror 4 Complement (word_of_plain 4 k o.lower))
  pub differ : Differ o.lower o.higher o.differing

-- It is the canonical word of the word with the plain rank x.
pub record OrdersRanks (k x : ℕ) (o : Ordered) : Type 0 where
  pub canonical : Canonical k o
  pub same_code : code 4 Complement k (word_of_plain 4 k o.lower) ≡ code 4 Complement k (word_of_plain 4 k x)
