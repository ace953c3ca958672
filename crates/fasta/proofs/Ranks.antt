-- The table of all bytes' ranks stands for the settings' ranks in all that is counted in a file, since only the bytes of letters are looked up.
use Rattle.std.proofs.Common.{◌≡◌, refl, ap, ℕ, arith, Bool, true, Option, List, [], ◌∷◌}
use Rattle.settings.specs.Settings.{rank_in}
use Rattle.settings.specs.RankTables.{rank_by_table, RanksOf}
use Rattle.settings.specs.declared.RankTable.{RankTable}
use Rattle.fasta.specs.declared.Item.{Item}
use Rattle.fasta.specs.declared.Mode.{Mode}
use Rattle.fasta.specs.Items.{foreign_in, marks, runs, windows_of, windows_in, numbers_in}
use Rattle.fasta.specs.File.{is_letter, lf_next, item, next, items_from}
use Rattle.fasta.proofs.Bytes.{letter_below, item-cases}

-- Two rank functions count and mark some items alike.
record Alike (rank rank' : ℕ → Option ℕ) (is : List Item) : Type 0 where
  marks_alike : marks rank is ≡ marks rank' is
  foreign_alike : foreign_in rank is ≡ foreign_in rank' is

-- The item of a byte is a letter only where the byte is one, so rank functions that agree on letters do for every file.
module _ (rank rank' : ℕ → Option ℕ) (same : (b : ℕ) → is_letter b ≡ true → rank b ≡ rank' b) where
  alike_item : (m : Mode) (b : ℕ) (lf : Bool) (is : List Item) → Alike rank rank' is → Alike rank rank' (item m b lf ∷ is)
  unfolding marks foreign_in
  alike_item m b lf is a =
      item-cases (λ (it : Item). Alike rank rank' (it ∷ is)) m b lf
      (record { marks_alike = rw a.marks_alike; foreign_alike = a.foreign_alike })
      (record { marks_alike = a.marks_alike; foreign_alike = a.foreign_alike })
      (record { marks_alike = a.marks_alike; foreign_alike = a.foreign_alike })
      (λ e. record { marks_alike = rw (same b e, a.marks_alike); foreign_alike = rw (same b e, a.foreign_alike) })

  alike : (m : Mode) (file : List ℕ) → Alike rank rank' (items_from m file)
  unfolding items_from marks foreign_in
  alike m [] = record { marks_alike = refl; foreign_alike = refl }
  alike m (b ∷ file) = alike_item m b (lf_next file) (items_from (next m b) file) (alike (next m b) file)

module _ (letters : List ℕ) (table : RankTable) (t : RanksOf letters table) (k : ℕ) (m : Mode) (file : List ℕ) where
  by_table : Alike (rank_by_table table) (rank_in letters) (items_from m file)
  by_table = alike (rank_by_table table) (rank_in letters) (λ b e. t.same b (omega (arith, letter_below b e))) m file

  -- Bytes have the same windows by the table as by the letters.
  pub windows_by_table : windows_in (rank_by_table table) k (items_from m file) ≡ windows_in (rank_in letters) k (items_from m file)
  windows_by_table = ap (λ (ms : List (Option ℕ)). windows_of k (runs ms)) by_table.marks_alike

  -- And the same five numbers.
  pub numbers_by_table : numbers_in (rank_by_table table) k (items_from m file) ≡ numbers_in (rank_in letters) k (items_from m file)
  numbers_by_table = rw (by_table.marks_alike, by_table.foreign_alike)
