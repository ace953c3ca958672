-- Demand 3 of the C calls, with lent lists of any length: each tells what the tally book does; those whose lists have room leave and tell what a list of adds and
-- withdrawals leaves and answers, of which it is proved in the crate tally_book, and the others are refused (`demand_three_from_c`, `kept_from_c`, and of two lists
-- `same_counts_from_c`, `demand_three_same_counts_from_c`; by which ground after a clearing: `short_from_c`). And an add and a withdrawal next
-- (`given_back_from_c`).
use Rattle.std.proofs.Common.{◌≡◌, refl, sym, ap, ap₂, ◌∙◌, Bool, true, false, cond, ◌||◌, Option, None, Some, List, [], ◌∷◌, ◌++◌, ℕ, ◌≤◌, arith, le-ltb, ltb-false, length, take, drop}
use Rattle.std.specs.Option.{unwrap_or}
use mathlib.Core.List.{zip_with, Forall₂}
use Rattle.settings.specs.Grounds.{Ground, Outcome, given, refused, ground, outcome, overwritten, ◌or_else◌}
use Rattle.settings.specs.Settings.{rank_in, settings_ground}
use Rattle.settings.proofs.Outcomes.{passed}
use Rattle.fasta.specs.declared.Numbers.{Numbers}
use Rattle.files.specs.File.{File, file_numbers}
use Rattle.settings.specs.Limits.{too_long}
use Rattle.tally_book.specs.Table.{class_count, too_many, ready_ground, clear_ground, Call, add, withdraw, call_file, Called}
use Rattle.tally_book.specs.Book.{Book, cleared_book, book_answer, book_after, book_answers}
use Rattle.tally_book.specs.Demand.{TableCalls, Agrees}
use Rattle.tally_book.specs.Demand.Calls.{done, then}
use Rattle.tally_book.proofs.Clearing.{settings_good, classes_bounded, places_enough, cleared_agrees, cleared_length}
use Rattle.tally_book.proofs.DemandThree.{kept, same_counts, demand_three}
use Rattle.tally_book.proofs.GivenBack.{given_back_whole}
use Rattle.returned.specs.Returned.{returned_with_place}
use Rattle.returned.specs.FileNumbers.{five_numbers}
use Rattle.kmer.specs.FileCalls.{ClearsInto, into_ground, CallsInto, AddsInto, WithdrawsInto}
use Rattle.kmer.specs.Demand.{Asked, Told, FileCalls, told_by, is_short, short_answer, RefusedIfShort, with_room, table_calls, book_told, AsTableCalls, DemandThreeFromC, KeptFromC, SameCountsFromC}
use Rattle.kmer.proofs.FileCalls.{same_ground, short_ground, room_for_five, as_long}
use Rattle.settings.specs.Given.{the_settings}

-- ---- one call

-- What a call returns and leaves at its grounds is what it tells of the answer.
tells : (g : Option Ground) (n : Numbers) (c : Asked)
    → ◌≡◌ {A = Told} (record { number = returned_with_place (outcome g 5); list = overwritten g (five_numbers n) c.lent }) (told_by (outcome g n) c)
tells None n c = refl
tells (Some f) n c = refl

module _ (letters : List ℕ) (k m : ℕ) where
  -- The answer of a call, by its grounds and the file's numbers.
  abbrev answer_to : (t : List ℕ) → Asked → Outcome Numbers
  answer_to t c = outcome (into_ground (the_settings letters k m) t c.call (length c.lent)) (file_numbers (rank_in letters) k (call_file c.call))

  module _ (t : List ℕ) (c : Asked) (a : Told) (t' : List ℕ) (A : CallsInto (the_settings letters k m) t c.call c.lent a.number t' a.list) where
    -- It is what the call tells.
    told_is : a ≡ told_by (answer_to t c) c
    told_is =
        ap₂ (λ (x : ℕ) (l : List ℕ). record { number = x; list = l }) A.returns A.answer_left
        ∙ tells (into_ground (the_settings letters k m) t c.call (length c.lent)) (file_numbers (rank_in letters) k (call_file c.call)) c

    -- A call whose list has room is a call on the table.
    is_call : 5 ≤ length c.lent → Called (the_settings letters k m) t c.call (answer_to t c) t'
    is_call room =
        let same = same_ground letters k m t c.call c.lent room in
        record { answers = rw same; leaves = A.table_left ∙ rw same }

    -- Any other is refused, and leaves the table.
    module _ (short : is_short c ≡ true) where
      is_refused : answer_to t c ≡ short_answer (the_settings letters k m) (length t) c.call
      is_refused = rw (short_ground letters k m t c.call c.lent short)

      same_table : t' ≡ t
      same_table = A.table_left ∙ rw (short_ground letters k m t c.call c.lent short)

-- ---- a list of calls

as_calls : (letters : List ℕ) (k m : ℕ) {t t' : List ℕ} {asked : List Asked} {told : List Told} → FileCalls (the_settings letters k m) t asked told t'
    → AsTableCalls (the_settings letters k m) t t' asked told
unfolding zip_with with_room
as_calls letters k m done = record { answers = []; each_call_told_its_answer = refl; calls = done; each_short_list_refused = Forall₂.nil }
as_calls letters k m (then {t} {t'} {t''} {c} {cs = asked} {a} h rest) =
    let R = as_calls letters k m rest in
    record {
      answers = answer_to letters k m t c ∷ R.answers;
      each_call_told_its_answer = ap₂ (λ (x : Told) (l : List Told). x ∷ l) (told_is letters k m t c a t' h) R.each_call_told_its_answer;
      calls = first (is_short c) refl R.answers R.calls;
      each_short_list_refused =
          Forall₂.cons (is_refused letters k m t c a t' h) (rw (as_long letters k m t c.call c.lent h) at R.each_short_list_refused);
    }
  where
    -- With room it is the first of the calls on the table; else there is no such call for it.
    first : (short : Bool) → is_short c ≡ short → (answers : List (Outcome Numbers))
        → TableCalls (the_settings letters k m) t' (table_calls asked) (with_room asked answers) t''
        → TableCalls (the_settings letters k m) t (cond short (table_calls asked) (c.call ∷ table_calls asked))
        (cond short (with_room asked answers) (answer_to letters k m t c ∷ with_room asked answers)) t''
    first true e answers later = rw (same_table letters k m t c a t' h e) at later
    first false e answers later = then (is_call letters k m t c a t' h (ltb-false (length c.lent) 5 e)) later

-- ---- the book's answers

-- What refuses a call whose list is too short is the same on every table that has a place for each class, as the book has.
short_of_book : (letters : List ℕ) (k m places : ℕ) (c : Call) → class_count (the_settings letters k m) ≤ places
    → short_answer (the_settings letters k m) places c ≡ short_answer (the_settings letters k m) (class_count (the_settings letters k m)) c
unfolding ready_ground
short_of_book letters k m places c h =
    let n = class_count (the_settings letters k m) in
    let enough : n ≤ n = omega arith in
    rw (le-ltb places n h, le-ltb n n enough)

-- Where the calls with room are answered by the book, and the others refused, all calls tell what the book tells.
book_tells : (letters : List ℕ) (k m places : ℕ) → class_count (the_settings letters k m) ≤ places
    → (book : Book) {asked : List Asked} {answers : List (Outcome Numbers)}
    → Forall₂ (RefusedIfShort (the_settings letters k m) places) asked answers
    → with_room asked answers ≡ book_answers (the_settings letters k m) book (table_calls asked)
    → zip_with told_by answers asked ≡ book_told (the_settings letters k m) book asked
unfolding zip_with with_room book_answers book_told
book_tells letters k m places h book Forall₂.nil e = refl
book_tells letters k m places h book (Forall₂.cons {a = c} {b = answer} {l₁ = asked} {l₂ = answers} r rs) e =
    first (is_short c) refl (λ b g. book_tells letters k m places h b rs g) e
  where
    first : (short : Bool) → is_short c ≡ short
        → ((b : Book) → with_room asked answers ≡ book_answers (the_settings letters k m) b (table_calls asked) → zip_with told_by answers asked ≡ book_told (the_settings letters k m) b asked)
        → cond short (with_room asked answers) (answer ∷ with_room asked answers)
        ≡ book_answers (the_settings letters k m) book (cond short (table_calls asked) (c.call ∷ table_calls asked))
        → told_by answer c ∷ zip_with told_by answers asked
        ≡ cond short
        (told_by (short_answer (the_settings letters k m) (class_count (the_settings letters k m)) c.call) c ∷ book_told (the_settings letters k m) book asked)
        (told_by (book_answer (the_settings letters k m) book c.call) c ∷ book_told (the_settings letters k m) (book_after (the_settings letters k m) book c.call) asked)
    first true s later g =
        ap₂ (λ (x : Outcome Numbers) (l : List Told). told_by x c ∷ l) (r s ∙ short_of_book letters k m places c.call h) (later book g)
    first false s later g =
        let answered : answer ≡ book_answer (the_settings letters k m) book c.call = cc in
        let others : with_room asked answers ≡ book_answers (the_settings letters k m) (book_after (the_settings letters k m) book c.call) (table_calls asked) = cc in
        ap₂ (λ (x : Outcome Numbers) (l : List Told). told_by x c ∷ l) answered (later (book_after (the_settings letters k m) book c.call) others)

-- ---- the theorems

-- Demand 3 for C programs. Let no ground refuse a `kmer_clear`, and let a list of `kmer_add` and `kmer_withdraw` calls follow, each with the clearing's
-- settings, a file, a lent list of any length for its answer, and the table that the call before left. Then each call tells what the book does: it returned 5
-- and put the file's five numbers into its list where numbers were answered, and returned 2^63 + P * 256 + the ground's number and left its list unchanged
-- where it was refused. Those of the calls whose lists have at least five places are adds and withdrawals of the same files on the same table, and demand 3
-- holds of these; each other call is refused.
pub demand_three_from_c : (letters : List ℕ) (k m : ℕ) {t₀ t t' : List ℕ} {r : ℕ} {asked : List Asked} {told : List Told}
    → clear_ground (the_settings letters k m) (length t₀) ≡ None
    → ClearsInto (the_settings letters k m) t₀ r t
    → FileCalls (the_settings letters k m) t asked told t'
    → DemandThreeFromC (the_settings letters k m) t₀ t t' asked told
demand_three_from_c letters k m no-ground R calls =
    let A = as_calls letters k m calls in
    let clearing = R.promised in
    let D = demand_three letters k m no-ground clearing A.calls in
    record {
      as_calls = A;
      each_call_told_what_the_book_did =
          A.each_call_told_its_answer
          ∙ book_tells letters k m _ (cleared_agrees letters k m no-ground clearing).one_place_a_class cleared_book A.each_short_list_refused
          D.kept.each_call_answered_what_the_book_did;
      demand_three = D;
    }

-- The same from any table that agrees with a book, under settings that pass the check.
pub kept_from_c : (letters : List ℕ) (k m : ℕ) (book : Book) {t t' : List ℕ} {asked : List Asked} {told : List Told}
    → settings_ground (the_settings letters k m) ≡ None
    → Agrees (the_settings letters k m) t book
    → FileCalls (the_settings letters k m) t asked told t'
    → KeptFromC (the_settings letters k m) book t t' asked told
kept_from_c letters k m book good agrees calls =
    let A = as_calls letters k m calls in
    let K = kept letters k m good book agrees A.calls in
    record {
      as_calls = A;
      each_call_told_what_the_book_did =
          A.each_call_told_its_answer
          ∙ book_tells letters k m _ agrees.one_place_a_class book A.each_short_list_refused K.each_call_answered_what_the_book_did;
      kept = K;
    }

-- Two such lists from tables that agree with one book, as two cleared tables do with the cleared one: they leave the same counts exactly when, for every word of
-- k letters, their files taken in, those taken out taken off, hold as many windows equal to it or its mirror.
pub same_counts_from_c : (letters : List ℕ) (k m : ℕ) (book : Book) {t u t' u' : List ℕ} {asked asked' : List Asked} {told told' : List Told}
    → settings_ground (the_settings letters k m) ≡ None
    → Agrees (the_settings letters k m) t book
    → Agrees (the_settings letters k m) u book
    → FileCalls (the_settings letters k m) t asked told t'
    → FileCalls (the_settings letters k m) u asked' told' u'
    → SameCountsFromC (the_settings letters k m) t t' asked told u u' asked' told'
same_counts_from_c letters k m book good agrees agrees' calls calls' =
    let A = as_calls letters k m calls in
    let B = as_calls letters k m calls' in
    record { one = A; other = B; same_counts = same_counts letters k m good book agrees agrees' A.calls B.calls }

-- "Two such lists with the same settings", each after a `kmer_clear` of its own that was not refused.
pub demand_three_same_counts_from_c : (letters : List ℕ) (k m : ℕ) {t₀ t t' u₀ u u' : List ℕ} {r r' : ℕ} {asked asked' : List Asked} {told told' : List Told}
    → clear_ground (the_settings letters k m) (length t₀) ≡ None
    → ClearsInto (the_settings letters k m) t₀ r t
    → FileCalls (the_settings letters k m) t asked told t'
    → clear_ground (the_settings letters k m) (length u₀) ≡ None
    → ClearsInto (the_settings letters k m) u₀ r' u
    → FileCalls (the_settings letters k m) u asked' told' u'
    → SameCountsFromC (the_settings letters k m) t t' asked told u u' asked' told'
demand_three_same_counts_from_c letters k m {t₀} no-ground R calls no-ground' R' calls' =
    same_counts_from_c letters k m cleared_book (settings_good letters k m (length t₀) no-ground) (cleared_agrees letters k m no-ground R.promised)
    (cleared_agrees letters k m no-ground' R'.promised) calls calls'

-- After a `kmer_clear` that was not refused, a call whose list is too short is refused 6 where its file is too long, and else 7 with P 5: no other ground can
-- come before the list's own.
pub short_from_c : (letters : List ℕ) (k m : ℕ) {t₀ t : List ℕ} {r : ℕ} (c : Call)
    → clear_ground (the_settings letters k m) (length t₀) ≡ None
    → ClearsInto (the_settings letters k m) t₀ r t
    → short_answer (the_settings letters k m) (length t) c ≡ refused (cond (too_long (call_file c).bytes) (6, 0) (7, 5))
unfolding ready_ground too_many
short_from_c letters k m {t₀} c no-ground R =
    rw (
      cleared_length letters k m no-ground R.promised,
      settings_good letters k m (length t₀) no-ground,
      le-ltb 16777216 (class_count (the_settings letters k m)) (classes_bounded letters k m (length t₀) no-ground),
      le-ltb (length t₀) (class_count (the_settings letters k m)) (places_enough letters k m (length t₀) no-ground),
    ) (by_length (too_long (call_file c).bytes))
  where
    by_length : (long : Bool)
        → ◌≡◌ {A = Outcome Numbers} (refused (unwrap_or (ground 6 (long || false) or_else None) (7, 5))) (refused (cond long (6, 0) (7, 5)))
    by_length true = refl
    by_length false = refl

-- ---- an add, and a withdrawal of the same file

-- What returned 5 was not refused.
five_passed : (g : Option Ground) → 5 ≡ returned_with_place (outcome g 5) → g ≡ None
five_passed None e = refl
five_passed (Some f) e = absurd (omega (arith, e))

-- "Adding a file that is taken in and withdrawing it next gives the table back" (document 02, K4): where `kmer_add` returned 5, a `kmer_withdraw` of the same
-- file from the table that it left returns 5, gives the same five numbers and leaves the table that was there before.
pub given_back_from_c : (letters : List ℕ) (k m : ℕ) {t t' t'' lent lent' new new' : List ℕ} {file : File} {r : ℕ} → 5 ≤ length lent'
    → AddsInto (the_settings letters k m) t file lent 5 t' new
    → WithdrawsInto (the_settings letters k m) t' file lent' r t'' new'
    → (r ≡ 5) × (take 5 new' ≡ take 5 new) × (t'' ≡ t)
given_back_from_c letters k m {t} {t'} {t''} {lent} {lent'} {new} {new'} {file} {r} room' A W =
    let n = file_numbers (rank_in letters) k file in
    let g = into_ground (the_settings letters k m) t (add file) (length lent) in
    let g' = into_ground (the_settings letters k m) t' (withdraw file) (length lent') in
    let e : g ≡ None = five_passed g A.returns in
    let room = room_for_five letters k m t (add file) lent e in
    let asked : Asked = record { call = add file; lent = lent } in
    let asked' : Asked = record { call = withdraw file; lent = lent' } in
    let added : Called (the_settings letters k m) t (add file) (given n) t' = rw e at (is_call letters k m t asked (record { number = 5; list = new }) t' A room) in
    let back = given_back_whole letters k m added (is_call letters k m t' asked' (record { number = r; list = new' }) t'' W room') in
    let e' : g' ≡ None = (passed n g' (sym back.0)).none_applies_lem in
    let numbers = five_numbers n ++ drop 5 lent in
    let numbers' = five_numbers n ++ drop 5 lent' in
    let list : new ≡ numbers = A.answer_left ∙ rw e in
    let list' : new' ≡ numbers' = W.answer_left ∙ rw e' in
    (W.returns ∙ rw e', ap (take 5) list' ∙ sym (ap (take 5) list), back.1)
