-- Demand 3, "a single claim about a whole list of adds, and not one for each call", for lists of adds and withdrawals (document 02, K4). Here it is stated;
-- proofs/DemandThree.antt has the theorems.
use Rattle.std.specs.Prelude.{◌≡◌, ◌↔◌, ◌⊎◌, List, [], ◌∷◌, ◌++◌, ℕ, ◌+◌, ◌-◌, ◌<◌, ◌≤◌, length, take, drop, get_or}
use Rattle.settings.specs.Grounds.{Outcome, given, refused}
use Rattle.settings.specs.Settings.{rank_in, mirror_of}
use Rattle.encoding.specs.Words.{IsWord, mirror}
use Rattle.fasta.specs.declared.Numbers.{Numbers}
use Rattle.files.specs.File.{File, file_numbers}
use Rattle.tally_book.specs.Table.{class_count, place_of, windows_of_file, Call, add, withdraw, Called}
use Rattle.tally_book.specs.Book.{CanonicalWord, hits, Book, cleared_book, book_answers, book_after_all}
use Rattle.settings.specs.Given.{Given}

-- ---- a list of calls

-- Calls one after the other, "each on the table that the last one left". `Step t c a t'` says that the call with the arguments c answers a
-- on the table t and leaves t'.
pub data Calls {C A : Type 0} (Step : List ℕ → C → A → List ℕ → Type 0) : List ℕ → List C → List A → List ℕ → Type 0 where
  done : {t : List ℕ} → Calls Step t [] [] t
  then : {t t' t'' : List ℕ} {c : C} {cs : List C} {a : A} {later : List A} → Step t c a t' → Calls Step t' cs later t''
      → Calls Step t (c ∷ cs) (a ∷ later) t''

-- A list of adds and withdrawals with the same settings. "All of demand 3 must hold for lists mixing both kinds of file" (document 02, K1): each file has its
-- own kind.
abbrev pub TableCalls : (settings : Given) → (t : List ℕ) (calls : List Call) (answers : List (Outcome Numbers)) (t' : List ℕ) → Type 0
TableCalls settings = Calls (Called settings)

-- The files taken in: those whose adds answered with numbers.
unfoldable pub taken_in : List Call → List (Outcome Numbers) → List File
taken_in [] answers = []
taken_in (c ∷ calls) [] = []
taken_in (add file ∷ calls) (given n ∷ answers) = file ∷ taken_in calls answers
taken_in (add file ∷ calls) (refused g ∷ answers) = taken_in calls answers
taken_in (withdraw file ∷ calls) (a ∷ answers) = taken_in calls answers

-- The files taken out: those whose withdrawals answered with numbers.
unfoldable pub taken_out : List Call → List (Outcome Numbers) → List File
taken_out [] answers = []
taken_out (c ∷ calls) [] = []
taken_out (withdraw file ∷ calls) (given n ∷ answers) = file ∷ taken_out calls answers
taken_out (withdraw file ∷ calls) (refused g ∷ answers) = taken_out calls answers
taken_out (add file ∷ calls) (a ∷ answers) = taken_out calls answers

-- The windows of some files.
unfoldable pub windows_of_files : (letters : List ℕ) (k : ℕ) → List File → List (List ℕ)
windows_of_files letters k [] = []
windows_of_files letters k (file ∷ files) = windows_of_file letters k file ++ windows_of_files letters k files

-- How many of them are equal to w or to its mirror.
abbrev pub file_hits : (settings : Given) (w : List ℕ) (files : List File) → ℕ
file_hits settings w files = hits (length settings.letters) (mirror_of settings.mirror) w (windows_of_files settings.letters settings.k files)

-- A number of each file "added up over the files".
unfoldable pub added_up : (File → ℕ) → List File → ℕ
added_up number [] = 0
added_up number (file ∷ files) = number file + added_up number files

-- The "sum of the counts".
unfoldable pub sum : List ℕ → ℕ
sum [] = 0
sum (x ∷ xs) = x + sum xs

-- "The counts are the table's places below the number of classes."
abbrev pub counts : (settings : Given) (t : List ℕ) → List ℕ
counts settings t = take (class_count settings) t

-- ---- the claim

-- The table has a place for each class, and each class's count is its tally.
pub record Agrees (settings : Given) (t : List ℕ) (book : Book) : Type 0 where
  pub one_place_a_class : class_count settings ≤ length t
  pub each_count_is_its_class's_tally : (w : List ℕ) → CanonicalWord (length settings.letters) (mirror_of settings.mirror) settings.k w
      → get_or t (place_of settings w) 0 ≡ book w

-- What holds after a list of calls that began with a table t₀ and a book that agreed.
pub record Kept (settings : Given) (book : Book) (t₀ : List ℕ) (calls : List Call) (answers : List (Outcome Numbers)) (t : List ℕ)
    : Type 0 where
  pub each_call_answered_what_the_book_did : answers ≡ book_answers settings book calls
  pub each_count_equals_its_class's_tally : Agrees settings t (book_after_all settings book calls)
  pub later_places_never_change : drop (class_count settings) t ≡ drop (class_count settings) t₀
  pub as_many_places_as_before : length t ≡ length t₀
  -- "each class's count is its windows added less its windows withdrawn, over the calls accepted", added to what it was
  pub each_count_moved_by_the_windows : (w : List ℕ) → CanonicalWord (length settings.letters) (mirror_of settings.mirror) settings.k w
      → get_or t (place_of settings w) 0 + file_hits settings w (taken_out calls answers)
      ≡ get_or t₀ (place_of settings w) 0 + file_hits settings w (taken_in calls answers)
  pub sum_of_the_windows :
      sum (counts settings t) + length (windows_of_files settings.letters settings.k (taken_out calls answers))
      ≡ sum (counts settings t₀) + length (windows_of_files settings.letters settings.k (taken_in calls answers))

-- "Every place below the number of classes stands for just one class, every class has its place there, and two words share a place exactly
-- when they are equal or mirrors of each other."
pub record OnePlaceAClass (settings : Given) : Type 0 where
  pub every_class_has_its_place : (w : List ℕ) → IsWord (length settings.letters) settings.k w → place_of settings w < class_count settings
  pub every_place_stands_for_a_class : (q : ℕ) → q < class_count settings
      → (w : List ℕ) × CanonicalWord (length settings.letters) (mirror_of settings.mirror) settings.k w × (place_of settings w ≡ q)
  pub and_for_just_one : (v w : List ℕ) → CanonicalWord (length settings.letters) (mirror_of settings.mirror) settings.k v → CanonicalWord (length settings.letters) (mirror_of settings.mirror) settings.k w
      → place_of settings v ≡ place_of settings w
      → v ≡ w
  pub words_share_a_place_exactly_when_equal_or_mirrors : (v w : List ℕ) → IsWord (length settings.letters) settings.k v → IsWord (length settings.letters) settings.k w
      → (place_of settings v ≡ place_of settings w) ↔ ((v ≡ w) ⊎ (v ≡ mirror (length settings.letters) (mirror_of settings.mirror) w))

-- Letters, foreign letters and edge letters of a file.
abbrev pub letters_of : (letters : List ℕ) (k : ℕ) (file : File) → ℕ
letters_of letters k file = (file_numbers (rank_in letters) k file).letters

abbrev pub foreign_of : (letters : List ℕ) (k : ℕ) (file : File) → ℕ
foreign_of letters k file = (file_numbers (rank_in letters) k file).foreign

abbrev pub edge_of : (letters : List ℕ) (k : ℕ) (file : File) → ℕ
edge_of letters k file = (file_numbers (rank_in letters) k file).edge

-- Letters less foreign letters less edge letters, "each added up over the files".
abbrev pub letters_left : (letters : List ℕ) (k : ℕ) (files : List File) → ℕ
letters_left letters k files =
    added_up (letters_of letters k) files - added_up (foreign_of letters k) files - added_up (edge_of letters k) files

-- Numbers here end at 0: neither of these two subtractions is cut off.
abbrev pub NotCutOff : (letters : List ℕ) (k : ℕ) (files : List File) → Type 0
NotCutOff letters k files =
    added_up (foreign_of letters k) files + added_up (edge_of letters k) files ≤ added_up (letters_of letters k) files

-- Demand 3 for a list of calls from a cleared table: t₀ is the table before the clearing, cleared the one that it left, t the one that the list left. `Kept` says
-- what holds from any table that agrees with a book, here from the cleared table and the cleared book; the other fields say what it comes to there, the counts being
-- 0, and beside t₀.
pub record DemandThree (settings : Given) (t₀ cleared : List ℕ) (calls : List Call) (answers : List (Outcome Numbers)) (t : List ℕ) : Type 0 where
  pub kept : Kept settings cleared_book cleared calls answers t
  pub later_places_as_before_the_clearing : drop (class_count settings) t ≡ drop (class_count settings) t₀
  pub as_many_places_as_before_the_clearing : length t ≡ length t₀
  pub places_and_classes : OnePlaceAClass settings
  -- "each class's count is its windows added less its windows withdrawn, over the calls accepted"; the next field says that nothing is cut off
  pub each_count_is_added_less_withdrawn : (w : List ℕ) → CanonicalWord (length settings.letters) (mirror_of settings.mirror) settings.k w
      → get_or t (place_of settings w) 0
      ≡ file_hits settings w (taken_in calls answers)
      - file_hits settings w (taken_out calls answers)
  pub no_class_more_withdrawn_than_added : (w : List ℕ) → CanonicalWord (length settings.letters) (mirror_of settings.mirror) settings.k w
      → file_hits settings w (taken_out calls answers)
      ≤ file_hits settings w (taken_in calls answers)
  -- "sum of the counts = letters − foreign letters − edge letters, each added up over the files taken in", less the same of those taken out. The
  -- last three fields say that no subtraction is cut off.
  pub sum_of_the_counts :
      sum (counts settings t) ≡ letters_left settings.letters settings.k (taken_in calls answers) - letters_left settings.letters settings.k (taken_out calls answers)
  pub nothing_cut_off_in : NotCutOff settings.letters settings.k (taken_in calls answers)
  pub nothing_cut_off_out : NotCutOff settings.letters settings.k (taken_out calls answers)
  pub no_more_out_than_in : letters_left settings.letters settings.k (taken_out calls answers) ≤ letters_left settings.letters settings.k (taken_in calls answers)

-- "Two such lists with the same settings leave the same counts exactly when, for every word of k letters, the files taken in by the one hold
-- as many windows equal to that word or its mirror as the files taken in by the other." Here the windows taken out are taken off on both sides; it is said by
-- sums, so that nothing is cut off.
abbrev pub SameCountsExactlyWhen : (settings : Given) (calls : List Call) (answers : List (Outcome Numbers)) (t : List ℕ)
    (calls' : List Call) (answers' : List (Outcome Numbers)) (t' : List ℕ) → Type 0
SameCountsExactlyWhen settings calls answers t calls' answers' t' =
    (counts settings t ≡ counts settings t')
    ↔ ((w : List ℕ) → IsWord (length settings.letters) settings.k w
    → file_hits settings w (taken_in calls answers)
    + file_hits settings w (taken_out calls' answers')
    ≡ file_hits settings w (taken_in calls' answers')
    + file_hits settings w (taken_out calls answers))
