-- A rank as a byte, and the table of all bytes' ranks: filled from the front by the loop of `RankTable::new`, and the ranks that it has.
use mathlib.Core.Path.{◌≡◌, sym, ◌∙◌}
use Rattle.std.specs.Prelude.{None, Some}
use mathlib.Core.List.{List}
use Prim.Native.Nat.{ℕ, ◌<◌, ◌+◌, ◌≤◌}
use native.Mathlib.Omega.{arith}
use borrow.Author.Tests.{eq-eqb, ne_eqb}
use lib.ListN.{length, get_or, set}
use Rattle.laws.proofs.Buffers.{set_next}
use Rattle.settings.specs.declared.RankTable.{RankTable}
use Rattle.settings.specs.RankTables.{as_rank, RanksOf, RanksBelow}
use Rattle.settings.specs.Settings.{rank_in}
use Rattle.settings.proofs.Ranks.{rank_below_count}

-- ---- a rank as a byte

module _ (x : ℕ) where
  pub as_none : x ≡ 255 → as_rank x ≡ None
  unfolding as_rank
  as_none e = rw (eq-eqb x 255 e)

  pub as_itself : (x ≡ 255 → ⊥) → as_rank x ≡ Some x
  unfolding as_rank
  as_itself e = rw (ne_eqb x 255 e)

-- ---- the table, filled from the front

-- The bytes below n have their ranks.
pub Filled : List ℕ → List ℕ → ℕ → Type 0
Filled letters table n = (b : ℕ) → b < n → as_rank (get_or table b 0) ≡ rank_in letters b

pub fill_one : (letters table : List ℕ) (n r : ℕ) → n < length table → as_rank r ≡ rank_in letters n → Filled letters table n
    → Filled letters (set table n r) (n + 1)
unfolding Filled
fill_one letters table n r h e f = set_next (λ (b x : ℕ). as_rank x ≡ rank_in letters b) table h f e

pub fill_none : (letters table : List ℕ) → Filled letters table 0
unfolding Filled
fill_none letters table b h = absurd (omega arith)

pub fill_all : (letters table : List ℕ) (n : ℕ) → 256 ≤ n → Filled letters table n → RanksOf letters (record { bytes = table })
unfolding Filled
fill_all letters table n h f = record { same = λ b g. f b (omega arith) }

-- ---- its ranks

-- A table of the letters' ranks has ranks below the number of letters.
pub table_below : {letters : List ℕ} {table : RankTable} → RanksOf letters table → RanksBelow (length letters) table
table_below {letters} T = record { below = λ b x h e. rank_below_count letters b x (sym e ∙ T.same b h) }
