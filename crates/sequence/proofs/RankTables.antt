-- The table of all bytes' ranks stands for the settings' ranks in the numbers of all windows of bytes (`codes_by_table`). From the laws of ranks by a table of
-- words.
use Rattle.std.proofs.Common.{◌≡◌, ap, refl, ap₂, Bool, cond, true, false, ◌&&◌, List, map, [], ◌∷◌, ℕ, ◌<◌, suc, arith, leb, length, take, is_some}
use Rattle.encoding.specs.Calls.{rank_or_zero}
use Rattle.words.specs.Needs.{ranks_by}
use Rattle.words.proofs.LetterLoops.{or_zero_below}
pub use Rattle.words.proofs.RanksByTable.{length-ranks_by, ranks_by_at, Bytes, tail_bytes, take-bytes, same_first, ranks_by_table}
use Rattle.encoding.specs.Words.{Ranks}
use Rattle.settings.specs.RankTables.{RanksOf, RanksBelow, rank_by_table}
use Rattle.settings.specs.declared.RankTable.{RankTable}
use Rattle.settings.specs.Settings.{mirror_of}
use Rattle.laws.specs.Windows.{windows}
use Rattle.sequence.specs.Needs.{all_ranked, code_by}
use Rattle.sequence.specs.Sequences.{all_letters, code_or_none, sequence_codes}
use Rattle.settings.specs.Given.{the_settings}

-- Two functions that agree on words of bytes give the windows of bytes the same numbers.
same_codes : (f g : List ℕ → ℕ) (k : ℕ) → ((word : List ℕ) → Bytes word → f word ≡ g word) → (bytes : List ℕ) → Bytes bytes
    → map f (windows k bytes) ≡ map g (windows k bytes)
unfolding windows
same_codes f g k same [] B = refl
same_codes f g k same (b ∷ bs) B = go (leb k (suc (length bs))) (same (take k (b ∷ bs)) (take-bytes k (b ∷ bs) B)) (same_codes f g k same bs (tail_bytes B))
  where
    go : (t : Bool) → f (take k (b ∷ bs)) ≡ g (take k (b ∷ bs)) → map f (windows k bs) ≡ map g (windows k bs)
        → map f (cond t (take k (b ∷ bs) ∷ windows k bs) (windows k bs)) ≡ map g (cond t (take k (b ∷ bs) ∷ windows k bs) (windows k bs))
    go true e h = ap₂ (λ (x : ℕ) (xs : List ℕ). x ∷ xs) e h
    go false e h = h

-- What stands for a byte in a list of ranks is below s: a rank of the table, or 0 for a byte that has none.
module _ {s : ℕ} {table : RankTable} (T : RanksBelow s table) (some-s : 0 < s) where
  rank_below : (b : ℕ) → b < 256 → rank_or_zero (rank_by_table table b) < s
  rank_below b byte = or_zero_below (rank_by_table table b) some-s (λ x e. T.below b x byte e)

  pub ranks_below : (bytes : List ℕ) → Bytes bytes → Ranks s (ranks_by (rank_by_table table) bytes)
  unfolding ranks_by
  ranks_below [] B = tt
  ranks_below (b ∷ bs) B = (rank_below b (B.below 0 (omega arith)), ranks_below bs (tail_bytes B))

module _ {letters : List ℕ} {table : RankTable} (T : RanksOf letters table) where
  letters_by_table : (bytes : List ℕ) → Bytes bytes → all_ranked (rank_by_table table) bytes ≡ all_letters letters bytes
  unfolding all_ranked all_letters
  letters_by_table [] B = refl
  letters_by_table (b ∷ bs) B = ap₂ (λ (x y : Bool). x && y) (ap is_some (same_first T B)) (letters_by_table bs (tail_bytes B))

  code_by_table : (k mir : ℕ) (word : List ℕ) → Bytes word → code_by (rank_by_table table) (length letters) (mirror_of mir) k word ≡ code_or_none (the_settings letters k mir) word
  unfolding code_by code_or_none
  code_by_table k mir word B = rw (letters_by_table word B, ranks_by_table T word B)

  -- The numbers of all windows.
  pub codes_by_table : (k mir : ℕ) (bytes : List ℕ) → Bytes bytes
      → map (code_by (rank_by_table table) (length letters) (mirror_of mir) k) (windows k bytes) ≡ sequence_codes (the_settings letters k mir) bytes
  unfolding sequence_codes
  codes_by_table k mir bytes B =
      same_codes (code_by (rank_by_table table) (length letters) (mirror_of mir) k) (code_or_none (the_settings letters k mir)) k (λ word W. code_by_table k mir word W) bytes B
