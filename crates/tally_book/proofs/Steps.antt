-- One call beside the book: a table that agrees with the book agrees with it after an add or a withdrawal, the answers are the same, later places stay, and
-- each count and their sum have moved by the file's windows. From the laws of counts (Changes) and of the grounds (SameGrounds).
use Rattle.std.proofs.Common.{◌≡◌, refl, ◌∙◌, ℕ, ◌+◌, ◌<◌, arith, Option, None, Some, List, length, drop, get_or}
use lib.ListN.{length-map}
use Rattle.settings.specs.Grounds.{Ground, Outcome, given, refused, outcome, unless_refused}
use Rattle.settings.specs.Settings.{rank_in, mirror_of, settings_ground}
use Rattle.fasta.specs.declared.Numbers.{Numbers}
use Rattle.files.specs.File.{file_numbers}
use Rattle.tally_book.specs.Table.{class_count, place_of, windows_of_file, places, Call, add, withdraw, call_file, per_window, table_after, Called}
use Rattle.tally_book.specs.Book.{Book, CanonicalWord, hits, book_ground, book_answer, tally_after, book_after}
use Rattle.tally_book.specs.Demand.{sum, counts, Agrees}
use Rattle.tally_book.proofs.Changes.{length_changes, get_d_more, get_d_less, drop_changes, sum_more, sum_less}
use Rattle.tally_book.proofs.Classes.{place_below, places_below}
use Rattle.tally_book.proofs.SameGrounds.{named_are_hits, ground_same, enough}
use Rattle.settings.specs.Given.{the_settings}

-- A number of a call's file that counts where the call takes it in, by its answer, and one that counts where it takes it out.
abbrev pub into : Call → Outcome Numbers → ℕ → ℕ
into (add file) (given x) n = n
into (add file) (refused f) n = 0
into (withdraw file) answer n = 0

abbrev pub out_of : Call → Outcome Numbers → ℕ → ℕ
out_of (withdraw file) (given x) n = n
out_of (withdraw file) (refused f) n = 0
out_of (add file) answer n = 0

-- A refused call moves nothing.
not_into : (c : Call) (f : Ground) (n : ℕ) → (into c (refused f) n ≡ 0) × (out_of c (refused f) n ≡ 0)
not_into (add file) f n = (refl, refl)
not_into (withdraw file) f n = (refl, refl)

-- What a call does beside the book.
pub record Stepped (letters : List ℕ) (k m : ℕ) (book : Book) (t : List ℕ) (c : Call) (answer : Outcome Numbers) (t' : List ℕ) : Type 0 where
  pub same_answer : answer ≡ book_answer (the_settings letters k m) book c
  pub agrees : Agrees (the_settings letters k m) t' (book_after (the_settings letters k m) book c)
  pub later : drop (class_count (the_settings letters k m)) t' ≡ drop (class_count (the_settings letters k m)) t
  pub as_long : length t' ≡ length t
  pub each_moved : (w : List ℕ) → CanonicalWord (length letters) (mirror_of m) k w
      → get_or t' (place_of (the_settings letters k m) w) 0 + out_of c answer (hits (length letters) (mirror_of m) w (windows_of_file letters k (call_file c)))
      ≡ get_or t (place_of (the_settings letters k m) w) 0 + into c answer (hits (length letters) (mirror_of m) w (windows_of_file letters k (call_file c)))
  pub sum_moved : sum (counts (the_settings letters k m) t') + out_of c answer (length (windows_of_file letters k (call_file c)))
      ≡ sum (counts (the_settings letters k m) t) + into c answer (length (windows_of_file letters k (call_file c)))

module _ (letters : List ℕ) (k m : ℕ) (good : settings_ground (the_settings letters k m) ≡ None) where
  -- Each class has its place in the table.
  inside : (t : List ℕ) (book : Book) (w : List ℕ) → Agrees (the_settings letters k m) t book → CanonicalWord (length letters) (mirror_of m) k w
      → place_of (the_settings letters k m) w < length t
  inside t book w A g = omega (arith, place_below letters k m good w g.word, A.one_place_a_class)

  -- Each count after a call to which no ground applies is its class's tally after it.
  tally_moved : (t : List ℕ) (book : Book) (c : Call) (w : List ℕ) → Agrees (the_settings letters k m) t book → CanonicalWord (length letters) (mirror_of m) k w
      → get_or (table_after (the_settings letters k m) t c) (place_of (the_settings letters k m) w) 0 ≡ tally_after (the_settings letters k m) book c w
  tally_moved t book (add file) w A g =
      get_d_more (places (the_settings letters k m) file) t (place_of (the_settings letters k m) w) (inside t book w A g)
      ∙ rw (A.each_count_is_its_class's_tally w g, named_are_hits letters k m good file w g)
  tally_moved t book (withdraw file) w A g =
      get_d_less (places (the_settings letters k m) file) t (place_of (the_settings letters k m) w) (inside t book w A g)
      ∙ rw (A.each_count_is_its_class's_tally w g, named_are_hits letters k m good file w g)

  -- It has moved by the file's windows of its class.
  each_moved_by : (t : List ℕ) (book : Book) (c : Call) (n : Numbers) (w : List ℕ) → book_ground (the_settings letters k m) book c ≡ None → Agrees (the_settings letters k m) t book
      → CanonicalWord (length letters) (mirror_of m) k w
      → let file-hits = hits (length letters) (mirror_of m) w (windows_of_file letters k (call_file c)) in
      get_or (table_after (the_settings letters k m) t c) (place_of (the_settings letters k m) w) 0 + out_of c (given n) file-hits ≡ get_or t (place_of (the_settings letters k m) w) 0 + into c (given n) file-hits
  each_moved_by t book (add file) n w e A g =
      omega (arith, get_d_more (places (the_settings letters k m) file) t (place_of (the_settings letters k m) w) (inside t book w A g), named_are_hits letters k m good file w g)
  each_moved_by t book (withdraw file) n w e A g =
      let q = place_of (the_settings letters k m) w in
      let lt = inside t book w A g in
      omega (arith, get_d_less (places (the_settings letters k m) file) t q lt, named_are_hits letters k m good file w g, enough letters k m good t book file e A q lt)

  -- And the sum of the counts by all its windows.
  sum_moved_by : (t : List ℕ) (book : Book) (c : Call) (n : Numbers) → book_ground (the_settings letters k m) book c ≡ None → Agrees (the_settings letters k m) t book
      → sum (counts (the_settings letters k m) (table_after (the_settings letters k m) t c)) + out_of c (given n) (length (windows_of_file letters k (call_file c)))
      ≡ sum (counts (the_settings letters k m) t) + into c (given n) (length (windows_of_file letters k (call_file c)))
  sum_moved_by t book (add file) n e A =
      let as_many = length-map (windows_of_file letters k file) (place_of (the_settings letters k m)) in
      omega (arith, sum_more (class_count (the_settings letters k m)) (places (the_settings letters k m) file) t (places_below letters k m good file) A.one_place_a_class)
  sum_moved_by t book (withdraw file) n e A =
      let as_many = length-map (windows_of_file letters k file) (place_of (the_settings letters k m)) in
      let below = places_below letters k m good file in
      omega (arith, sum_less (class_count (the_settings letters k m)) (places (the_settings letters k m) file) t below A.one_place_a_class (enough letters k m good t book file e A))

  -- The table and the book after a call to which no ground applies.
  step_on : (t : List ℕ) (book : Book) (c : Call) → book_ground (the_settings letters k m) book c ≡ None → Agrees (the_settings letters k m) t book
      → Stepped letters k m book t c (given (file_numbers (rank_in letters) k (call_file c))) (table_after (the_settings letters k m) t c)
  step_on t book c e A =
      let qs = places (the_settings letters k m) (call_file c) in
      let same_length = length_changes (per_window c) qs t in
      record {
        same_answer = rw e;
        agrees =
            record {
              one_place_a_class = omega (arith, same_length, A.one_place_a_class);
              each_count_is_its_class's_tally = λ w g. rw e (tally_moved t book c w A g);
            };
        later = drop_changes (per_window c) (class_count (the_settings letters k m)) qs t (places_below letters k m good (call_file c));
        as_long = same_length;
        each_moved = λ w g. each_moved_by t book c _ w e A g;
        sum_moved = sum_moved_by t book c _ e A;
      }

  -- The table and the book after a call to which the ground g applies, or none.
  step_by : (t : List ℕ) (book : Book) (c : Call) (g : Option Ground) → book_ground (the_settings letters k m) book c ≡ g → Agrees (the_settings letters k m) t book
      → Stepped letters k m book t c (outcome g (file_numbers (rank_in letters) k (call_file c))) (unless_refused g (table_after (the_settings letters k m) t c) t)
  step_by t book c (Some g) e A =
      record {
        same_answer = rw e;
        agrees = record { one_place_a_class = A.one_place_a_class; each_count_is_its_class's_tally = λ w c. rw e (A.each_count_is_its_class's_tally w c) };
        later = refl;
        as_long = refl;
        each_moved = λ w _. let z = not_into c g (hits (length letters) (mirror_of m) w (windows_of_file letters k (call_file c))) in omega (arith, z.0, z.1);
        sum_moved = let z = not_into c g (length (windows_of_file letters k (call_file c))) in omega (arith, z.0, z.1);
      }
  step_by t book c None e A = step_on t book c e A

  -- One call on a table that agrees with a book: what `Stepped` says.
  pub step : (t : List ℕ) (c : Call) (t' : List ℕ) (answer : Outcome Numbers) (book : Book) → Called (the_settings letters k m) t c answer t' → Agrees (the_settings letters k m) t book
      → Stepped letters k m book t c answer t'
  step t c t' answer book h A =
      let e = ground_same letters k m good t book c A in
      rw (h.answers, h.leaves, e) (step_by t book c (book_ground (the_settings letters k m) book c) refl A)
