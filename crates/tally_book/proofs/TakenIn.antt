-- The files that a list of calls takes in and those that it takes out: their windows and their letters. From the definitions in specs/Demand.antt, and
-- from what is known of the windows (FileWords) and the letters (`letters_are`) of one file.
use Rattle.std.proofs.Common.{◌≡◌, ℕ, ◌+◌, ◌≤◌, arith, List, [], ◌∷◌, ◌++◌, length, length-append}
use Rattle.settings.specs.Grounds.{Outcome, given, refused}
use Rattle.settings.specs.Settings.{rank_in}
use Rattle.encoding.specs.Words.{Mirror, IsWord}
use Rattle.fasta.specs.declared.Numbers.{Numbers}
use Rattle.files.specs.File.{File, items, file_windows}
use Rattle.fasta.proofs.Runs.{letters_are}
use Rattle.tally_book.specs.Table.{windows_of_file, Call, add, withdraw, call_file}
use Rattle.tally_book.specs.Book.{hits}
use Rattle.tally_book.specs.Demand.{taken_in, taken_out, windows_of_files, added_up, letters_of, foreign_of, edge_of}
use Rattle.laws.specs.Each.{Each}
use Rattle.laws.proofs.Each.{each_append}
use Rattle.tally_book.proofs.FileWords.{windows_are_words}
use Rattle.tally_book.proofs.Steps.{into, out_of}

-- Words of a class, added up.
pub hits-append : (s : ℕ) (m : Mirror) (w : List ℕ) (us vs : List (List ℕ)) → hits s m w (us ++ vs) ≡ hits s m w us + hits s m w vs
unfolding hits
hits-append s m w [] vs = omega arith
hits-append s m w (u ∷ us) vs = omega (arith, hits-append s m w us vs)

module _ (letters : List ℕ) (k : ℕ) where
  -- The windows of some files are words of k letters.
  pub all_windows_are_words : (files : List File) → Each (IsWord (length letters) k) (windows_of_files letters k files)
  unfolding windows_of_files
  all_windows_are_words [] = tt
  all_windows_are_words (file ∷ files) =
      each_append (IsWord (length letters) k) (windows_of_file letters k file) (windows_of_files letters k files)
      (windows_are_words letters k file) (all_windows_are_words files)

  -- A number of lists of words that is added up over their parts: one call more takes in that of its file's windows, or takes it out, or neither.
  module _ (number : List (List ℕ) → ℕ) (adds : (us vs : List (List ℕ)) → number (us ++ vs) ≡ number us + number vs) where
    pub in_more : (c : Call) (answer : Outcome Numbers) (calls : List Call) (answers : List (Outcome Numbers))
        → number (windows_of_files letters k (taken_in (c ∷ calls) (answer ∷ answers)))
        ≡ into c answer (number (windows_of_file letters k (call_file c))) + number (windows_of_files letters k (taken_in calls answers))
    unfolding taken_in windows_of_files
    in_more (add file) (given n) calls answers = adds (windows_of_file letters k file) (windows_of_files letters k (taken_in calls answers))
    in_more (add file) (refused g) calls answers = omega arith
    in_more (withdraw file) answer calls answers = omega arith

    pub out_more : (c : Call) (answer : Outcome Numbers) (calls : List Call) (answers : List (Outcome Numbers))
        → number (windows_of_files letters k (taken_out (c ∷ calls) (answer ∷ answers)))
        ≡ out_of c answer (number (windows_of_file letters k (call_file c))) + number (windows_of_files letters k (taken_out calls answers))
    unfolding taken_out windows_of_files
    out_more (withdraw file) (given n) calls answers = adds (windows_of_file letters k file) (windows_of_files letters k (taken_out calls answers))
    out_more (withdraw file) (refused g) calls answers = omega arith
    out_more (add file) answer calls answers = omega arith

  -- The windows of some files are as many as their letters less the foreign ones and the edge letters, each added up.
  pub added_up_lem : (files : List File) → 1 ≤ k
      → added_up (letters_of letters k) files ≡ length (windows_of_files letters k files) + added_up (foreign_of letters k) files + added_up (edge_of letters k) files
  unfolding added_up windows_of_files windows_of_file
  added_up_lem [] h = omega arith
  added_up_lem (file ∷ files) h =
      let both = length-append (file_windows (rank_in letters) k file) (windows_of_files letters k files) in
      omega (arith, letters_are (rank_in letters) k (items file) h, added_up_lem files h)
