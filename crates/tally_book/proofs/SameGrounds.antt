-- The grounds of a call read alike from a table and from a book that agree: 12, 18, and so all of them; and each count is high enough where no ground
-- applies to a withdrawal. From the laws of tests (Some) and of places and classes (Classes).
use Rattle.std.proofs.Common.{◌≡◌, sym, ap, ◌∙◌, ℕ, ◌-◌, ◌≤◌, ◌<◌, arith, Bool, true, Option, None, List, length, take, get_or, ltb, le-ltb, ltb-false}
use Rattle.laws.proofs.Tests.{bool_ext}
use Rattle.settings.specs.Grounds.{Ground, ground}
use Rattle.settings.specs.Settings.{mirror_of, settings_ground}
use Rattle.settings.proofs.Outcomes.{later_none, test_fails}
use Rattle.files.specs.File.{File, file_fault}
use Rattle.tally_book.specs.Table.{class_count, place_of, windows_of_file, places, occurrences, some_below, ready_ground, call_ground, Call, add, withdraw, call_file, table_full, table_lacks, last_ground, table_ground}
use Rattle.tally_book.specs.Book.{Book, CanonicalWord, hits, some_of, book_full, book_lacks, book_last, canonical_ones, all_words, book_ground}
use Rattle.tally_book.specs.Demand.{Agrees}
use Rattle.tally_book.proofs.Changes.{enough_by_front}
use Rattle.tally_book.proofs.Full.{full-below, full-of}
use Rattle.tally_book.proofs.Some.{some_below_at, some_below_where, some_below_front, none_below, some_of_member, some_of_where}
use Rattle.tally_book.proofs.WordLists.{listed, unlisted}
use Rattle.tally_book.proofs.FileWords.{windows_are_words}
use Rattle.tally_book.proofs.Classes.{place_below, places_and_classes, occurrences_are_hits, places_below}
use Rattle.settings.specs.Given.{the_settings}

-- A table with a place for each class is long enough, as the book is.
room_same : (letters : List ℕ) (k m room : ℕ) (file : File) (last : Option Ground) → class_count (the_settings letters k m) ≤ room
    → call_ground (the_settings letters k m) room file last ≡ call_ground (the_settings letters k m) (class_count (the_settings letters k m)) file last
unfolding call_ground ready_ground
room_same letters k m room file last h = rw (le-ltb room (class_count (the_settings letters k m)) h, le-ltb (class_count (the_settings letters k m)) (class_count (the_settings letters k m)) (omega arith))

module _ (letters : List ℕ) (k m : ℕ) (good : settings_ground (the_settings letters k m) ≡ None) where
  -- Some class's place passes a test exactly where some canonical word passes another, if both say the same of each class.
  found_alike : (by_place : ℕ → Bool) (by_word_lem : List ℕ → Bool)
      → ((w : List ℕ) → CanonicalWord (length letters) (mirror_of m) k w → by_place (place_of (the_settings letters k m) w) ≡ by_word_lem w)
      → some_below (class_count (the_settings letters k m)) by_place ≡ some_of by_word_lem (canonical_ones (length letters) (mirror_of m) (all_words (length letters) k))
  found_alike by_place by_word_lem same = bool_ext (some_below (class_count (the_settings letters k m)) by_place) (some_of by_word_lem all) to from
    where
      all : List (List ℕ)
      all = canonical_ones (length letters) (mirror_of m) (all_words (length letters) k)

      to : some_below (class_count (the_settings letters k m)) by_place ≡ true → some_of by_word_lem all ≡ true
      to e =
          let (i, l, g) = some_below_where (class_count (the_settings letters k m)) by_place e in
          let (w, c, at) = (places_and_classes letters k m good).every_place_stands_for_a_class i l in
          some_of_member by_word_lem all w (listed (length letters) (mirror_of m) k w c) (sym (same w c) ∙ ap by_place at ∙ g)

      from : some_of by_word_lem all ≡ true → some_below (class_count (the_settings letters k m)) by_place ≡ true
      from e =
          let (w, at, g) = some_of_where by_word_lem all e in
          let c = unlisted (length letters) (mirror_of m) k w at in
          some_below_at (class_count (the_settings letters k m)) by_place (place_of (the_settings letters k m) w) (place_below letters k m good w c.word) (same w c ∙ g)

  -- Ground 12 is read alike from the counts and from the tallies.
  full_same : (t : List ℕ) (book : Book) (file : File) → Agrees (the_settings letters k m) t book → table_full (the_settings letters k m) t file ≡ book_full (the_settings letters k m) book file
  full_same t book file A =
      let free = 4294967295 - length (windows_of_file letters k file) in
      full-below (length (windows_of_file letters k file)) (take (class_count (the_settings letters k m)) t)
      ∙ some_below_front (class_count (the_settings letters k m)) t (λ (q count : ℕ). ltb free count) A.one_place_a_class
      ∙ found_alike (λ (q : ℕ). ltb free (get_or t q 0)) (λ (w : List ℕ). ltb free (book w)) (λ w c. ap (ltb free) (A.each_count_is_its_class's_tally w c))
      ∙ sym (full-of (length (windows_of_file letters k file)) book (canonical_ones (length letters) (mirror_of m) (all_words (length letters) k)))

  -- A file's windows of a class: by the class's place and by its canonical word.
  pub named_are_hits : (file : File) (w : List ℕ) → CanonicalWord (length letters) (mirror_of m) k w
      → occurrences (place_of (the_settings letters k m) w) (places (the_settings letters k m) file) ≡ hits (length letters) (mirror_of m) w (windows_of_file letters k file)
  named_are_hits file w c = occurrences_are_hits letters k m good w (windows_of_file letters k file) c.word (windows_are_words letters k file)

  -- Ground 18 as a test of the table's places.
  lacks_at_places : (t : List ℕ) (file : File) → class_count (the_settings letters k m) ≤ length t
      → table_lacks (the_settings letters k m) t file
      ≡ some_below (class_count (the_settings letters k m)) (λ (q : ℕ). ltb (get_or t q 0) (occurrences q (places (the_settings letters k m) file)))
  lacks_at_places t file = some_below_front (class_count (the_settings letters k m)) t (λ (q count : ℕ). ltb count (occurrences q (places (the_settings letters k m) file)))

  -- Ground 18 is read alike from the counts and from the tallies.
  lacks_same : (t : List ℕ) (book : Book) (file : File) → Agrees (the_settings letters k m) t book → table_lacks (the_settings letters k m) t file ≡ book_lacks (the_settings letters k m) book file
  lacks_same t book file A =
      lacks_at_places t file A.one_place_a_class
      ∙ found_alike (λ (q : ℕ). ltb (get_or t q 0) (occurrences q (places (the_settings letters k m) file)))
      (λ (w : List ℕ). ltb (book w) (hits (length letters) (mirror_of m) w (windows_of_file letters k file)))
      (λ w c. rw (A.each_count_is_its_class's_tally w c, named_are_hits file w c))

  last_same : (t : List ℕ) (book : Book) (c : Call) → Agrees (the_settings letters k m) t book → last_ground (the_settings letters k m) t c ≡ book_last (the_settings letters k m) book c
  last_same t book (add file) A = ap (ground 12) (full_same t book file A)
  last_same t book (withdraw file) A = ap (ground 18) (lacks_same t book file A)

  pub ground_same : (t : List ℕ) (book : Book) (c : Call) → Agrees (the_settings letters k m) t book → table_ground (the_settings letters k m) t c ≡ book_ground (the_settings letters k m) book c
  ground_same t book c A =
      ap (call_ground (the_settings letters k m) (length t) (call_file c)) (last_same t book c A)
      ∙ room_same letters k m (length t) (call_file c) (book_last (the_settings letters k m) book c) A.one_place_a_class

  -- Where no ground applies to a withdrawal, each count is high enough.
  pub enough : (t : List ℕ) (book : Book) (file : File) → book_ground (the_settings letters k m) book (withdraw file) ≡ None → Agrees (the_settings letters k m) t book
      → (q : ℕ) → q < length t → occurrences q (places (the_settings letters k m) file) ≤ get_or t q 0
  unfolding call_ground
  enough t book file e A =
      let last : ground 18 (book_lacks (the_settings letters k m) book file) ≡ None =
      later_none (file_fault file) _ (later_none (ready_ground (the_settings letters k m) (class_count (the_settings letters k m)) file.bytes) _ e) in
      let not = sym (lacks_at_places t file A.one_place_a_class) ∙ lacks_same t book file A ∙ test_fails 18 (book_lacks (the_settings letters k m) book file) last in
      enough_by_front (class_count (the_settings letters k m)) t (places (the_settings letters k m) file) (places_below letters k m good file)
      (λ q l. ltb-false (get_or t q 0) (occurrences q (places (the_settings letters k m) file)) (none_below (class_count (the_settings letters k m)) _ q not l))
