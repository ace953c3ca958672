-- Document 02, K2: "a file and its copy with T for U": what a copy of a word, a sequence or a file's bytes is, of which theorems say that it is read as
-- the original is.
use Rattle.std.specs.Prelude.{◌≡◌, cond, ◌⊎◌, ℕ, eqb}
use mathlib.Core.List.{List, Forall₂}

-- T (84) for U (85) and t (116) for u (117); any other byte is left as it is.
unfoldable pub t_for_u : ℕ → ℕ
t_for_u b = cond (eqb b 85) 84 (cond (eqb b 117) 116 b)

-- A copy with T for some or all of the U, and t for some or all of the u: in each place the byte itself or what stands for it.
abbrev pub CopyWithT : (bytes copy : List ℕ) → Type 0
CopyWithT bytes copy = Forall₂ (λ (b c : ℕ). (c ≡ b) ⊎ (c ≡ t_for_u b)) bytes copy
