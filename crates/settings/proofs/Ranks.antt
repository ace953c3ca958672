-- What a byte is read as, by the tests of `reads_u_as_t` and `read_as`; its rank, as `position` finds it. A rank is below
-- the number of letters.
use mathlib.Core.Path.{◌≡◌, refl, sym, ap, ◌∙◌}
use mathlib.Core.Bool.{Bool, cond, true, false, ◌&&◌, and-false}
use Rattle.std.specs.Prelude.{Option, Some}
use Rattle.std.specs.Char.{to_ascii_uppercase}
use Rattle.std.proofs.lemmas.Str.Ascii.{uppercase_is}
use Rattle.std.specs.List.{position, position_from}
use Rattle.std.proofs.lemmas.Iterator.Adapters.{position_from-zero}
use mathlib.Core.List.{List, [], ◌∷◌}
use Prim.Native.Nat.{ℕ, ◌<◌, ◌+◌, ◌-◌, ◌≤◌, suc}
use native.Mathlib.Numerals.{add-one}
use native.Mathlib.Omega.{arith}
use borrow.Author.Tests.{ne_eqb, leb-true, leb-false}
use lib.Dec.{eqb, leb}
use lib.ListN.{length}
use Rattle.settings.specs.Settings.{is_in, capital_of, reads_u_as_t, read_as, place_from, rank_in}

-- ---- what a byte is read as

module _ (letters : List ℕ) where
  pub with_U : true ≡ is_in 85 letters → false ≡ reads_u_as_t letters
  unfolding reads_u_as_t
  with_U e = rw (← e, and-false (is_in 84 letters))

  module _ (b : ℕ) where
    pub read_U_as_T : capital_of b ≡ 85 → true ≡ reads_u_as_t letters → 84 ≡ read_as letters b
    unfolding read_as
    read_U_as_T u reads = rw (u, ← reads)

    pub read_own : false ≡ reads_u_as_t letters → capital_of b ≡ read_as letters b
    unfolding read_as
    read_own unread = rw (← unread, and-false (eqb (capital_of b) 85))

    pub read_other : (capital_of b ≡ 85 → ⊥) → capital_of b ≡ read_as letters b
    unfolding read_as
    read_other no-u = rw (ne_eqb (capital_of b) 85 no-u)

-- A small letter's capital, as std makes it.
pub uppercase_capital : (b : ℕ) → to_ascii_uppercase b ≡ capital_of b
unfolding capital_of
uppercase_capital b = go (leb 97 b) (leb b 122) refl refl (uppercase_is b)
  where
    go : (low high : Bool) → leb 97 b ≡ low → leb b 122 ≡ high
        → ((97 ≤ b) × (b ≤ 122) → to_ascii_uppercase b + 32 ≡ b) × (b < 97 → to_ascii_uppercase b ≡ b) × (122 < b → to_ascii_uppercase b ≡ b)
        → to_ascii_uppercase b ≡ cond (low && high) (b - 32) b
    go true true l h U = omega (arith, U.0 (leb-true 97 b l, leb-true b 122 h))
    go true false l h U = U.2 (leb-false b 122 h)
    go false high l h U = U.1 (leb-false 97 b l)

-- ---- its place among the letters

-- The place of u in a list, as std's `position` finds it.
from_position : (n u : ℕ) (ls : List ℕ) → position_from (λ x. eqb x u) n ls ≡ place_from n u ls
unfolding place_from
from_position n u [] = refl
from_position n u (l ∷ ls) = rw (add-one n) (ap (λ (p : Option ℕ). cond (eqb l u) (Some n) p) (from_position (suc n) u ls))

pub place_position : (u : ℕ) (ls : List ℕ) → position (λ x. eqb x u) ls ≡ place_from 0 u ls
place_position u ls = position_from-zero (λ x. eqb x u) ls ∙ from_position 0 u ls

place_below : (n b : ℕ) (ls : List ℕ) (x : ℕ) → place_from n b ls ≡ Some x → x < n + length ls
unfolding place_from
place_below n b [] x e = let z : ◌≡◌ {A = ℕ} 0 1 = cc in absurd (omega arith)
place_below n b (l ∷ ls) x e = go (eqb l b) e (place_below (suc n) b ls x)
  where
    go : (t : Bool) → cond t (Some n) (place_from (suc n) b ls) ≡ Some x → (place_from (suc n) b ls ≡ Some x → x < suc n + length ls)
        → x < n + suc (length ls)
    go true f ih = let same : n ≡ x = cc in omega arith
    go false f ih = omega (arith, ih f)

-- A rank is below the number of letters.
pub rank_below_count : (letters : List ℕ) (b x : ℕ) → Some x ≡ rank_in letters b → x < length letters
rank_below_count letters b x e = omega (arith, place_below 0 _ letters x (sym e))
