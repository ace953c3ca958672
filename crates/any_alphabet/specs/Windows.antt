-- What the kernel for every alphabet keeps of a window. No sentence of document 01 rests on it.
use Rattle.std.specs.Prelude.{◌≡◌, List, ℕ, suc, ◌+◌, ◌-◌, ◌≤◌, length}
use Rattle.encoding.specs.Words.{Mirror, mirror, plain}
use Rattle.encoding.specs.Codes.{code}
use Rattle.encoding.specs.Needs.{palindromes}
use Rattle.ranks.specs.Needs.{part}
use Rattle.any_alphabet.specs.Needs.{Input}
use Rattle.any_alphabet.specs.declared.Window.{Window}
use Rattle.any_alphabet.specs.declared.AnyAlphabet.{AnyAlphabet}

-- What is kept of the window of k letters at place j.
pub record Kept (s : ℕ) (m : Mirror) (k : ℕ) (powers d : List ℕ) (j : ℕ) (t : Window) : Type 0 where
  pub input : Input s k powers d
  pub inside : j + k ≤ length d
  pub count : t.palindromes ≡ palindromes s m k
  pub ahead : t.forward ≡ plain s (part (suc j) (k - 2) d)
  pub behind : t.back ≡ plain s (mirror s m (part (suc j) (k - 2) d))

-- A window of the ranks that a kernel has.
abbrev pub IsWindow : AnyAlphabet → Window → Type 0
IsWindow a w = Kept a.s a.mirror w.length a.powers.now a.ranks.now w.at w

-- Its code.
abbrev pub code_of : AnyAlphabet → Window → ℕ
code_of a w = code a.s a.mirror w.length (part w.at w.length a.ranks.now)
