-- Document 02, K3: the table from which the two-bit path takes a window's mirror.
use Rattle.std.specs.Prelude.{◌≡◌, List, ℕ, ◌+◌, ◌-◌, ◌*◌, ◌<◌, length, get_or}

-- "four packed letters, first letter highest": the byte of four letters with the ranks a, b, c and d.
unfoldable pub packed : (a b c d : ℕ) → ℕ
packed a b c d = a * 64 + b * 16 + c * 4 + d

-- "a table of 256 entries, one for each byte of four packed letters, first letter highest, giving the byte of its reverse complement. Its rule, at every
-- entry: the four ranks in reverse order, each r now 3 − r."
pub record MirrorTable (table : List ℕ) : Type 0 where
  pub entries : length table ≡ 256
  pub at : (a b c d : ℕ) → a < 4 → b < 4 → c < 4 → d < 4 → get_or table (packed a b c d) 0 ≡ packed (3 - d) (3 - c) (3 - b) (3 - a)
