-- What writers of texts promise; no claim and no call of document 01 rests on it. Every byte has its place whether the buffer has that
-- place or not, so that writers one after the other need no condition.
use Rattle.std.specs.Prelude.{◌≡◌, ℕ, ◌+◌, ◌≤◌, min, List, length}
use Rattle.std.proofs.lemmas.List.Edits.{sets}
use Rattle.texts.specs.declared.Writer.{Writer}

-- The highest place that a writer counts to, 2^64 - 1.
abbrev pub top : ℕ
top = 18446744073709551615

-- A text was written from the place `at` on, as far as the buffer goes, and r is the place after it.
pub record Puts (out out' : List ℕ) (at r : ℕ) (text : List ℕ) : Type 0 where
  pub place : r ≡ min (at + length text) top
  pub leaves : out' ≡ sets out at text
  pub bounded : length out ≤ top

-- A writer wrote a text into the buffer that it had, and stands behind it.
pub record Writes (w w' : Writer) (text : List ℕ) : Type 0 where
  pub buffer : w'.out.ghost_name ≡ w.out.ghost_name
  pub puts : Puts w.out.now w'.out.now w.at w'.at text
