-- What the kernel by two-bit numbers asks of settings and promises of two numbers. No sentence of document 01 rests on it.
use Rattle.std.specs.Prelude.{◌≡◌, ◌≢◌, ℕ, ◌-◌, ◌/◌, ◌^◌, ◌≤◌}
use Rattle.encoding.specs.Words.{Complement}
use Rattle.encoding.specs.Needs.{palindromes}

-- n is the number of palindromes of k letters.
abbrev pub CountsPalindromes : ℕ → ℕ → Type 0
CountsPalindromes k n = n ≡ palindromes 4 Complement k

-- Two numbers differ only within their q lowest letters of two bits, and in the highest of these.
pub record Differ (a b q : ℕ) : Type 0 where
  pub few : q ≤ 32
  pub same : a / 4 ^ q ≡ b / 4 ^ q
  pub other : 1 ≤ q → a / 4 ^ (q - 1) ≢ b / 4 ^ (q - 1)
