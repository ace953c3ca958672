-- A file's windows are words of k letters. From the definitions of marks, runs and windows, and that a letter's rank is below the number of letters.
use Rattle.std.proofs.Common.{◌≡◌, refl, sym, ℕ, suc, ◌<◌, Bool, true, false, cond, Option, None, Some, List, [], ◌∷◌, length, take, length-take-le, leb, leb-true}
use Rattle.settings.specs.Settings.{rank_in}
use Rattle.encoding.specs.Words.{Ranks, IsWord}
use Rattle.encoding.proofs.Ends.{ranks_take}
use Rattle.fasta.specs.declared.Item.{Item}
use Rattle.fasta.specs.declared.Item.TheVariants.{Opens, Skip, Stray, Letter}
use Rattle.laws.specs.Windows.{windows}
use Rattle.fasta.specs.Items.{marks, on_first, runs, windows_of}
use Rattle.files.specs.File.{File, items}
use Rattle.settings.proofs.Ranks.{rank_below_count}
use Rattle.tally_book.specs.Table.{windows_of_file}
use Rattle.laws.specs.Each.{Each}
use Rattle.laws.proofs.Each.{each_append}

-- A mark of a rank below s, or of a break.
Ranked : ℕ → Option ℕ → Type 0
Ranked s None = Unit {0}
Ranked s (Some x) = x < s

module _ (s k : ℕ) where
  ranked_on_first : (x : ℕ) (rs : List (List ℕ)) → x < s → Each (Ranks s) rs → Each (Ranks s) (on_first x rs)
  unfolding on_first
  ranked_on_first x [] h a = ((h, tt), tt)
  ranked_on_first x (r ∷ rs) h a = ((h, a.0), a.1)

  ranked_runs : (ms : List (Option ℕ)) → Each (Ranked s) ms → Each (Ranks s) (runs ms)
  unfolding runs Ranked
  ranked_runs [] a = (tt, tt)
  ranked_runs (None ∷ ms) a = (tt, ranked_runs ms a.1)
  ranked_runs (Some x ∷ ms) a = ranked_on_first x (runs ms) a.0 (ranked_runs ms a.1)

  -- The windows of ranks below s are words of k letters.
  pub word_windows : (r : List ℕ) → Ranks s r → Each (IsWord s k) (windows k r)
  unfolding windows
  word_windows [] a = tt
  word_windows (x ∷ xs) a = go (leb k (suc (length xs))) refl (word_windows xs a.1)
    where
      go : (b : Bool) → leb k (suc (length xs)) ≡ b → Each (IsWord s k) (windows k xs)
          → Each (IsWord s k) (cond b (take k (x ∷ xs) ∷ windows k xs) (windows k xs))
      go true e ih = (record { letters = length-take-le k (x ∷ xs) (leb-true _ _ e); ranks = ranks_take s k (x ∷ xs) a }, ih)
      go false e ih = ih

  word_windows_of : (rs : List (List ℕ)) → Each (Ranks s) rs → Each (IsWord s k) (windows_of k rs)
  unfolding windows_of
  word_windows_of [] a = tt
  word_windows_of (r ∷ rs) a = each_append (IsWord s k) (windows k r) (windows_of k rs) (word_windows r a.0) (word_windows_of rs a.1)

module _ (letters : List ℕ) (k : ℕ) where
  ranked : (b : ℕ) (o : Option ℕ) → rank_in letters b ≡ o → Ranked (length letters) o
  unfolding Ranked
  ranked b None e = tt
  ranked b (Some x) e = rank_below_count letters b x (sym e)

  ranked_marks : (is : List Item) → Each (Ranked (length letters)) (marks (rank_in letters) is)
  unfolding marks Ranked
  ranked_marks [] = tt
  ranked_marks (Opens ∷ is) = (tt, ranked_marks is)
  ranked_marks (Skip ∷ is) = ranked_marks is
  ranked_marks (Stray ∷ is) = ranked_marks is
  ranked_marks (Letter b ∷ is) = (ranked b (rank_in letters b) refl, ranked_marks is)

  -- The windows of a file are words of k letters.
  pub windows_are_words : (file : File) → Each (IsWord (length letters) k) (windows_of_file letters k file)
  unfolding windows_of_file
  windows_are_words file =
      let ms = marks (rank_in letters) (items file) in
      word_windows_of (length letters) k (runs ms) (ranked_runs (length letters) k ms (ranked_marks (items file)))
