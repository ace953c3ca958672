-- The theorems of demand 3, for all settings that pass the check and every list of adds and withdrawals, each of which meets the contract `Called` on the
-- table that the last one left: from any table that agrees with a book (`kept`, `same_counts`), and from a cleared table (`demand_three`,
-- `demand_three_same_counts`). The statements are those of specs/Demand.antt.
use Rattle.std.proofs.Common.{◌≡◌, refl, sym, ap, ◌∙◌, ℕ, ◌+◌, arith, None, List, length, get_or, length-append, length-take-le, get_or-take, ext_get_or}
use Rattle.settings.specs.Grounds.{Outcome}
use Rattle.settings.specs.Settings.{mirror_of, settings_ground}
use Rattle.settings.proofs.SettingsGrounds.{good_settings}
use Rattle.fasta.specs.declared.Numbers.{Numbers}
use Rattle.encoding.specs.Words.{IsWord, canonical}
use Rattle.files.specs.File.{File}
use Rattle.tally_book.specs.Table.{class_count, place_of, clear_ground, Call, Clears}
use Rattle.tally_book.specs.Book.{hits, Book, cleared_book, book_after, book_answers, book_after_all}
use Rattle.tally_book.specs.Demand.{TableCalls, taken_in, taken_out, windows_of_files, file_hits, counts, Agrees, Kept, DemandThree, SameCountsExactlyWhen}
use Rattle.tally_book.specs.Demand.Calls.{done, then}
use Rattle.tally_book.proofs.Classes.{place_below, places_and_classes, canonical_word, canonical_place, hits_of_canonical}
use Rattle.tally_book.proofs.Steps.{step}
use Rattle.tally_book.proofs.TakenIn.{hits-append, all_windows_are_words, in_more, out_more, added_up_lem}
use Rattle.tally_book.proofs.Clearing.{settings_good, cleared_agrees, cleared_sum, cleared_later, cleared_length}
use Rattle.settings.specs.Given.{the_settings}

module _ (letters : List ℕ) (k m : ℕ) (good : settings_ground (the_settings letters k m) ≡ None) where
  -- A list of calls from any table, beside a book that agrees with it: each answer is the book's, each count is its class's tally, later places never
  -- change, and each count, and the sum of the counts, moves by the windows of the files taken in and taken out.
  pub kept : (book : Book) {t t' : List ℕ} {calls : List Call} {answers : List (Outcome Numbers)} → Agrees (the_settings letters k m) t book
      → TableCalls (the_settings letters k m) t calls answers t'
      → Kept (the_settings letters k m) book t calls answers t'
  unfolding book_answers book_after_all taken_in taken_out windows_of_files hits
  kept book A done =
      record {
        each_call_answered_what_the_book_did = refl;
        each_count_equals_its_class's_tally = A;
        later_places_never_change = refl;
        as_many_places_as_before = refl;
        each_count_moved_by_the_windows = λ w c. refl;
        sum_of_the_windows = refl;
      }
  kept book A (then {t} {t'} {t''} {c} {cs = calls} {a = answer} {later = answers} h rest) =
      let s = step letters k m good t c t' answer book h A in
      let ih = kept (book_after (the_settings letters k m) book c) s.agrees rest in
      record {
        each_call_answered_what_the_book_did = cc (s.same_answer, ih.each_call_answered_what_the_book_did);
        each_count_equals_its_class's_tally = ih.each_count_equals_its_class's_tally;
        later_places_never_change = ih.later_places_never_change ∙ s.later;
        as_many_places_as_before = ih.as_many_places_as_before ∙ s.as_long;
        each_count_moved_by_the_windows = λ w g.
            let number = hits (length letters) (mirror_of m) w in
            let adds = hits-append (length letters) (mirror_of m) w in
            omega (
              arith,
              ih.each_count_moved_by_the_windows w g,
              s.each_moved w g,
              in_more letters k number adds c answer calls answers,
              out_more letters k number adds c answer calls answers,
            );
        sum_of_the_windows =
            omega (
              arith,
              ih.sum_of_the_windows,
              s.sum_moved,
              in_more letters k length length-append c answer calls answers,
              out_more letters k length length-append c answer calls answers,
            );
      }

  -- The count of each word's class, and the windows taken out that are equal to the word or its mirror, are as many as the class's tally before and those
  -- taken in.
  counted : (book : Book) {t t' : List ℕ} {calls : List Call} {answers : List (Outcome Numbers)} → Agrees (the_settings letters k m) t book
      → TableCalls (the_settings letters k m) t calls answers t'
      → (w : List ℕ) → IsWord (length letters) k w
      → get_or (counts (the_settings letters k m) t') (place_of (the_settings letters k m) w) 0 + file_hits (the_settings letters k m) w (taken_out calls answers)
      ≡ book (canonical (length letters) (mirror_of m) w) + file_hits (the_settings letters k m) w (taken_in calls answers)
  counted book {t} {t'} {calls} {answers} A all w i =
      let c = canonical_word letters k m good w i in
      let v = canonical (length letters) (mirror_of m) w in
      let moved = (kept book A all).each_count_moved_by_the_windows v c in
      let before : get_or t (place_of (the_settings letters k m) v) 0 ≡ book v = A.each_count_is_its_class's_tally v c in
      let same : get_or (counts (the_settings letters k m) t') (place_of (the_settings letters k m) w) 0 ≡ get_or t' (place_of (the_settings letters k m) v) 0 =
      get_or-take (class_count (the_settings letters k m)) t' (place_of (the_settings letters k m) w) 0 (place_below letters k m good w i)
      ∙ ap (λ (q : ℕ). get_or t' q 0) (sym (canonical_place letters k m good w i)) in
      omega (arith, own_hits (taken_in calls answers), own_hits (taken_out calls answers))
    where
      own_hits : (files : List File) → file_hits (the_settings letters k m) (canonical (length letters) (mirror_of m) w) files ≡ file_hits (the_settings letters k m) w files
      own_hits files = hits_of_canonical letters k m good w (windows_of_files letters k files) i (all_windows_are_words letters k files)

  as_many : (book : Book) {t t' : List ℕ} {calls : List Call} {answers : List (Outcome Numbers)} → Agrees (the_settings letters k m) t book
      → TableCalls (the_settings letters k m) t calls answers t'
      → length (counts (the_settings letters k m) t') ≡ class_count (the_settings letters k m)
  as_many book {t' = t'} A all =
      length-take-le (class_count (the_settings letters k m)) t' (kept book A all).each_count_equals_its_class's_tally.one_place_a_class

  -- Two lists from tables that agree with the same book leave the same counts exactly when, for every word of k letters, the windows equal to the word or its
  -- mirror that the one takes in and the other takes out are as many as those that the other takes in and the one takes out.
  pub same_counts : (book : Book) {t u t' u' : List ℕ} {calls calls' : List Call} {answers answers' : List (Outcome Numbers)} → Agrees (the_settings letters k m) t book
      → Agrees (the_settings letters k m) u book
      → TableCalls (the_settings letters k m) t calls answers t'
      → TableCalls (the_settings letters k m) u calls' answers' u'
      → SameCountsExactlyWhen (the_settings letters k m) calls answers t' calls' answers' u'
  same_counts book {t' = t'} {u' = u'} A B all all' = (
    λ e w i.
        let same = ap (λ (l : List ℕ). get_or l (place_of (the_settings letters k m) w) 0) e in
        omega (arith, counted book A all w i, same, counted book B all' w i),
    λ h. ext_get_or 0 (counts (the_settings letters k m) t') (counts (the_settings letters k m) u') (as_many book A all ∙ sym (as_many book B all')) (λ q l.
        let (w, c, at) = (places_and_classes letters k m good).every_place_stands_for_a_class q (omega (arith, as_many book A all)) in
        rw (← at) (omega (arith, counted book A all w c.word, h w c.word, counted book B all' w c.word))),
  )

-- ---- from a cleared table: t₀ before the clearing, t after it, no ground for refusing having applied to the clearing

-- Demand 3 for every list of adds and withdrawals, refused ones included, made with the same settings from a cleared table: every answer is the book's,
-- every count its class's tally and its windows added less its windows withdrawn, later places are as before the clearing, places and classes match one to
-- one, and the sum of the counts is letters - foreign - edge over the files taken in less the same over those taken out, where no subtraction is cut off.
pub demand_three : (letters : List ℕ) (k m : ℕ) {t₀ t t' : List ℕ} {cleared : Outcome ℕ} {calls : List Call} {answers : List (Outcome Numbers)}
    → clear_ground (the_settings letters k m) (length t₀) ≡ None
    → Clears (the_settings letters k m) t₀ cleared t
    → TableCalls (the_settings letters k m) t calls answers t'
    → DemandThree (the_settings letters k m) t₀ t calls answers t'
demand_three letters k m {calls = calls} {answers = answers} no-ground clearing all =
    let good = settings_good letters k m _ no-ground in
    let A = cleared_agrees letters k m no-ground clearing in
    let K = kept letters k m good cleared_book A all in
    let some_k = (good_settings letters k m good).some_k in
    let letters-in = added_up_lem letters k (taken_in calls answers) some_k in
    let letters-out = added_up_lem letters k (taken_out calls answers) some_k in
    let sum_is_lem = K.sum_of_the_windows in
    let none_yet = cleared_sum letters k m no-ground clearing in
    record {
      kept = K;
      later_places_as_before_the_clearing = K.later_places_never_change ∙ cleared_later letters k m no-ground clearing;
      as_many_places_as_before_the_clearing = K.as_many_places_as_before ∙ cleared_length letters k m no-ground clearing;
      places_and_classes = places_and_classes letters k m good;
      each_count_is_added_less_withdrawn = λ w c.
          omega (arith, K.each_count_moved_by_the_windows w c, A.each_count_is_its_class's_tally w c);
      no_class_more_withdrawn_than_added = λ w c.
          omega (arith, K.each_count_moved_by_the_windows w c, A.each_count_is_its_class's_tally w c);
      sum_of_the_counts = omega (arith, sum_is_lem, none_yet, letters-in, letters-out);
      nothing_cut_off_in = omega (arith, letters-in);
      nothing_cut_off_out = omega (arith, letters-out);
      no_more_out_than_in = omega (arith, sum_is_lem, none_yet, letters-in, letters-out);
    }

-- "Two such lists with the same settings", each from a cleared table of its own: they leave the same counts exactly when, for every word of k letters,
-- their files taken in, those taken out taken off, hold as many windows equal to it or its mirror.
pub demand_three_same_counts : (letters : List ℕ) (k m : ℕ) {t₀ t t' u₀ u u' : List ℕ} {cleared cleared' : Outcome ℕ} {calls calls' : List Call}
    {answers answers' : List (Outcome Numbers)}
    → clear_ground (the_settings letters k m) (length t₀) ≡ None
    → Clears (the_settings letters k m) t₀ cleared t
    → TableCalls (the_settings letters k m) t calls answers t'
    → clear_ground (the_settings letters k m) (length u₀) ≡ None
    → Clears (the_settings letters k m) u₀ cleared' u
    → TableCalls (the_settings letters k m) u calls' answers' u'
    → SameCountsExactlyWhen (the_settings letters k m) calls answers t' calls' answers' u'
demand_three_same_counts letters k m no-ground clearing all no-ground' clearing' all' =
    same_counts letters k m (settings_good letters k m _ no-ground) cleared_book (cleared_agrees letters k m no-ground clearing)
    (cleared_agrees letters k m no-ground' clearing') all all'
