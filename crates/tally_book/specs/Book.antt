-- Document 01, "The tally book", and document 02, K4, withdrawals in it. It keeps one tally a class, by the class's canonical word, and reads neither codes nor the
-- table's places; the rules for the grounds are those of Table.
-- Throughout, s is the number of letters and m the mirror.
use Rattle.std.specs.Prelude.{◌≡◌, Bool, true, false, cond, ◌&&◌, ◌||◌, List, [], ◌∷◌, ◌++◌, map, ℕ, zero, suc, ◌+◌, ◌-◌, length, eqb, ltb, Option}
use Rattle.settings.specs.Grounds.{Ground, Outcome, ground, outcome, unless_refused}
use Rattle.settings.specs.Settings.{rank_in, mirror_of}
use Rattle.encoding.specs.Words.{Mirror, IsWord, mirror, canonical}
use Rattle.fasta.specs.declared.Numbers.{Numbers}
use Rattle.files.specs.File.{File, file_numbers}
use Rattle.tally_book.specs.Table.{class_count, windows_of_file, full, call_ground, Call, add, withdraw, call_file}
use Rattle.settings.specs.Given.{Given}

-- ---- words and classes

-- "Words and windows are equal where their ranks are."
unfoldable pub same_word : List ℕ → List ℕ → Bool
same_word [] [] = true
same_word [] (b ∷ w) = false
same_word (a ∷ v) [] = false
same_word (a ∷ v) (b ∷ w) = eqb a b && same_word v w

-- Whether v is "equal to" w "or to that word's mirror".
unfoldable pub same_class : ℕ → Mirror → (w v : List ℕ) → Bool
same_class s m w v = same_word v w || same_word v (mirror s m w)

-- How many of some words are equal to w or to its mirror. A palindrome counts once.
unfoldable pub hits : ℕ → Mirror → (w : List ℕ) → List (List ℕ) → ℕ
hits s m w [] = 0
hits s m w (v ∷ vs) = cond (same_class s m w v) 1 0 + hits s m w vs

-- w is the canonical word of a class: a word of k letters that is its own canonical word.
pub record CanonicalWord (s : ℕ) (m : Mirror) (k : ℕ) (w : List ℕ) : Type 0 where
  pub word : IsWord s k w
  pub own : canonical s m w ≡ w

-- Some words with one more letter in front, of each rank below n.
unfoldable pub with_front : ℕ → List (List ℕ) → List (List ℕ)
with_front zero ws = []
with_front (suc n) ws = with_front n ws ++ map (◌∷◌ n) ws

-- All words of k letters.
unfoldable pub all_words : ℕ → ℕ → List (List ℕ)
all_words s zero = [] ∷ []
all_words s (suc k) = with_front s (all_words s k)

-- Those of some words that are the canonical words of their classes.
unfoldable pub canonical_ones : ℕ → Mirror → List (List ℕ) → List (List ℕ)
canonical_ones s m [] = []
canonical_ones s m (w ∷ ws) = cond (same_word (canonical s m w) w) (w ∷ canonical_ones s m ws) (canonical_ones s m ws)

-- ---- the book

-- "It has one tally a class": the tally of each canonical word. What it has for other words counts for nothing.
abbrev pub Book : Type 0
Book = List ℕ → ℕ

-- "all 0 after clearing"
abbrev pub cleared_book : Book
cleared_book w = 0

-- The tallies of all classes.
abbrev pub tallies : ℕ → Mirror → ℕ → Book → List ℕ
tallies s m k book = map book (canonical_ones s m (all_words s k))

-- "12 read with the tallies instead of the table's places"
abbrev pub book_full : (settings : Given) → Book → (file : File) → Bool
book_full settings book file = full (length (windows_of_file settings.letters settings.k file)) (tallies (length settings.letters) (mirror_of settings.mirror) settings.k book)

-- Whether some of these words passes a test.
unfoldable pub some_of : (List ℕ → Bool) → List (List ℕ) → Bool
some_of test [] = false
some_of test (w ∷ ws) = test w || some_of test ws

-- 18 read with the tallies: "some class has a smaller count than the file has windows of it" (document 02, K4)
abbrev pub book_lacks : (settings : Given) → Book → (file : File) → Bool
book_lacks settings book file =
    some_of (λ (w : List ℕ). ltb (book w) (hits (length settings.letters) (mirror_of settings.mirror) w (windows_of_file settings.letters settings.k file)))
    (canonical_ones (length settings.letters) (mirror_of settings.mirror) (all_words (length settings.letters) settings.k))

-- The last ground of a call, read from the tallies.
abbrev pub book_last : (settings : Given) → Book → Call → Option Ground
book_last settings book (add file) = ground 12 (book_full settings book file)
book_last settings book (withdraw file) = ground 18 (book_lacks settings book file)

-- "Where any ground for refusing applies" to a call: the book has room for each class, so that ground 7 never applies to it; neither did it to the
-- clearing.
abbrev pub book_ground : (settings : Given) → Book → Call → Option Ground
book_ground settings book c = call_ground settings (class_count settings) (call_file c) (book_last settings book c)

-- "the book answers the number and P that the rules for the grounds give", "and the book answers the file's numbers"
abbrev pub book_answer : (settings : Given) → Book → Call → Outcome Numbers
book_answer settings book c = outcome (book_ground settings book c) (file_numbers (rank_in settings.letters) settings.k (call_file c))

-- Of an add "each class's tally grows by the number of the file's windows equal to its canonical word or to that word's mirror"; the book "keeps
-- withdrawals likewise" (document 02, K4), so of a withdrawal it falls by that number, which, by ground 18, is no larger than the tally.
abbrev pub tally_after : (settings : Given) → Book → Call → Book
tally_after settings book (add file) w = book w + hits (length settings.letters) (mirror_of settings.mirror) w (windows_of_file settings.letters settings.k file)
tally_after settings book (withdraw file) w = book w - hits (length settings.letters) (mirror_of settings.mirror) w (windows_of_file settings.letters settings.k file)

-- "no tally changes. Otherwise .."
abbrev pub book_after : (settings : Given) → Book → Call → Book
book_after settings book c w = unless_refused (book_ground settings book c) (tally_after settings book c w) (book w)

-- ---- a list of calls

-- What the book answers to some calls, one after the other.
unfoldable pub book_answers : (settings : Given) → Book → List Call → List (Outcome Numbers)
book_answers settings book [] = []
book_answers settings book (c ∷ calls) = book_answer settings book c ∷ book_answers settings (book_after settings book c) calls

-- The book after them.
unfoldable pub book_after_all : (settings : Given) → Book → List Call → Book
book_after_all settings book [] = book
book_after_all settings book (c ∷ calls) = book_after_all settings (book_after settings book c) calls
