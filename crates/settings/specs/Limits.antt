-- The limits of document 01 that several definitions share, each named once; and settings within them, as the theorems take them: the number of letters s, and k.
-- They are the same for both mirrors (document 02, K10).
use Rattle.std.specs.Prelude.{ℕ, ◌^◌, ◌<◌, ◌≤◌, Bool, List, length, ltb}

-- "s^k at most 2^62"
abbrev pub most_words : ℕ
most_words = 2 ^ 62

-- "sequence file or plain sequence above 16,777,216 bytes .. or, in table calls, classes above 16,777,216" (6)
abbrev pub most_bytes : ℕ
most_bytes = 16777216

abbrev pub most_classes : ℕ
most_classes = 16777216

-- The highest count of 32 bits: "more than 4,294,967,295 less the file's windows" (12).
abbrev pub highest_count : ℕ
highest_count = 4294967295

-- Ground 6, of a file, read or written (document 02, K8), and of a plain sequence.
unfoldable pub too_long : (bytes : List ℕ) → Bool
too_long bytes = ltb most_bytes (length bytes)

-- 2 to 16 letters, s^k at most 2^62. That k is at least 1 is not asked: what is shown of words holds for the empty word too.
pub record Limits (s k : ℕ) : Type 0 where
  pub two : 1 < s
  pub few : s ≤ 16
  pub small : s ^ k ≤ most_words
