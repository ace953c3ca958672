-- What the functions on packed letters promise each other; no sentence of the documents rests on it.
use Rattle.std.specs.Prelude.{ℕ, ◌%◌, ◌^◌}
use Rattle.encoding.specs.Words.{Complement, mirror, plain}
use Rattle.encoding.specs.WordsOfCodes.{word_of_plain}

-- The plain rank of the mirror of the n lowest letters of x.
unfoldable pub low_mirror : ℕ → ℕ → ℕ
low_mirror n x = plain 4 (mirror 4 Complement (word_of_plain 4 n (x % 4 ^ n)))
