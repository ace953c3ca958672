-- Ranks that are looked up in a table of all bytes' ranks, for `fill_ranks_by` and, along sequences, for `read_ranks`: what stands for a byte, how many there are
-- and what each is, bytes of parts of a text, and that such ranks are those of the letters (`ranks_by_table`). From the definitions of both.
use Rattle.std.proofs.Common.{◌≡◌, ap, refl, ap₂, Option, List, [], ◌∷◌, ℕ, ◌+◌, ◌<◌, suc, arith, length, get_or, take, drop, length-take, length-drop, get_or-take, get_or-drop}
use lib.ListN.{length-map}
use Rattle.laws.proofs.Lists.{get_d_map_in}
use Rattle.settings.specs.RankTables.{RanksOf, rank_by_table}
use Rattle.settings.specs.declared.RankTable.{RankTable}
use Rattle.settings.specs.Settings.{rank_in}
use Rattle.encoding.specs.Calls.{rank_or_zero, ranks_of}
use Rattle.words.specs.Needs.{ranks_by}

-- ---- one rank for each byte

pub length-ranks_by : (rank : ℕ → Option ℕ) (bytes : List ℕ) → length (ranks_by rank bytes) ≡ length bytes
unfolding ranks_by
length-ranks_by rank bytes = length-map bytes (λ (b : ℕ). rank_or_zero (rank b))

pub ranks_by_at : (rank : ℕ → Option ℕ) (bytes : List ℕ) (i : ℕ) → i < length bytes → get_or (ranks_by rank bytes) i 0 ≡ rank_or_zero (rank (get_or bytes i 0))
unfolding ranks_by
ranks_by_at rank bytes i h = get_d_map_in (λ (b : ℕ). rank_or_zero (rank b)) bytes i h

-- ---- bytes

-- All bytes of a list are below 256.
pub record Bytes (bytes : List ℕ) : Type 0 where
  pub below : (i : ℕ) → i < length bytes → get_or bytes i 0 < 256

pub tail_bytes : {b : ℕ} {bs : List ℕ} → Bytes (b ∷ bs) → Bytes bs
tail_bytes B = record { below = λ i h. B.below (suc i) (omega arith) }

pub take-bytes : (n : ℕ) (w : List ℕ) → Bytes w → Bytes (take n w)
take-bytes n w B =
    record {
      below = λ i h.
          let l = length-take n w in
          let g : i < n = omega arith in
          rw (get_or-take n w i 0 g) (B.below i (omega arith));
    }

pub drop-bytes : (n : ℕ) (w : List ℕ) → Bytes w → Bytes (drop n w)
drop-bytes n w B = record { below = λ i h. rw (get_or-drop n w i 0) (B.below (n + i) (omega (arith, length-drop n w))) }

-- ---- by a table that has every byte's rank

module _ {letters : List ℕ} {table : RankTable} (T : RanksOf letters table) where
  pub same_first : {b : ℕ} {bs : List ℕ} → Bytes (b ∷ bs) → rank_by_table table b ≡ rank_in letters b
  same_first {b} B = T.same b (B.below 0 (omega arith))

  -- The ranks are those of the letters.
  pub ranks_by_table : (bytes : List ℕ) → Bytes bytes → ranks_by (rank_by_table table) bytes ≡ ranks_of letters bytes
  unfolding ranks_by ranks_of
  ranks_by_table [] B = refl
  ranks_by_table (b ∷ bs) B = ap₂ (λ (x : ℕ) (xs : List ℕ). x ∷ xs) (ap rank_or_zero (same_first B)) (ranks_by_table bs (tail_bytes B))
