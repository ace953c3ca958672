-- What adding and withdrawing through the C calls rest on: which ground applies at each test, that the P of each refusal is at most 16,777,216, the
-- answer, table and list from those of `table::call`, and that the table stays as long as it was.
use Rattle.std.proofs.Common.{◌≡◌, refl, sym, ap, ◌∙◌, true, ◌||◌, Option, None, Some, List, ◌++◌, ℕ, ◌^◌, ◌<◌, ◌≤◌, arith, lt-ltb, le-ltb, length, drop, ltb}
use Rattle.std.specs.Option.{unwrap_or}
use Rattle.settings.specs.Grounds.{Ground, Outcome, given, refused, ground_at, too_short, outcome, unless_refused, ◌or_else◌}
use Rattle.settings.specs.Settings.{rank_in}
use Rattle.settings.specs.declared.Checked.{Checked}
use Rattle.settings.proofs.Outcomes.{refused_is, passed, first_none, later_none, nowhere_met, room_enough}
use Rattle.settings.proofs.FirstGround.{PlaceUpTo, Small, test_small, place_small, then_small, room_small}
use Rattle.fasta.specs.declared.Numbers.{Numbers}
use Rattle.files.specs.File.{File, file_fault, file_numbers}
use Rattle.settings.specs.Limits.{too_long}
use Rattle.files.proofs.FaultNumbers.{fault_has}
use Rattle.tally_book.specs.Table.{class_count, places, too_many, ready_ground, call_ground, Call, add, withdraw, call_file, table_full, table_lacks, last_ground, table_ground, per_window, table_after, Called}
use Rattle.tally_book.proofs.Changes.{length_changes}
use Rattle.table.proofs.CallGrounds.{classes_few, ready_file}
use Rattle.kmer.proofs.Refusals.{sizes_small}
use Rattle.returned.specs.Needs.{PlaceFits}
use Rattle.returned.proofs.Refusals.{answer_fits}
use Rattle.returned.specs.FileNumbers.{five_numbers}
use Rattle.kmer.specs.FileCalls.{into_ground, CallsInto}
use Rattle.kmer.specs.Needs.{AnswersInto}
use Rattle.settings.specs.Given.{the_settings}

-- ---- how large P can be

ready_small : (letters : List ℕ) (k m room : ℕ) (bytes : List ℕ) → Small 16777216 (ready_ground (the_settings letters k m) room bytes)
unfolding ready_ground
ready_small letters k m room bytes =
    sizes_small letters k m (too_long bytes || too_many (class_count (the_settings letters k m))) room (class_count (the_settings letters k m)) (λ _ e. classes_few letters k m bytes e)

last_small : (letters : List ℕ) (k m : ℕ) (t : List ℕ) (c : Call) → Small 16777216 (last_ground (the_settings letters k m) t c)
last_small letters k m t (add file) = test_small 16777216 12 (table_full (the_settings letters k m) t file)
last_small letters k m t (withdraw file) = test_small 16777216 18 (table_lacks (the_settings letters k m) t file)

rest_small : (letters : List ℕ) (k m : ℕ) (t : List ℕ) (c : Call) → ready_ground (the_settings letters k m) (length t) (call_file c).bytes ≡ None
    → Small 16777216 (file_fault (call_file c) or_else last_ground (the_settings letters k m) t c)
rest_small letters k m t c ready =
    let file = call_file c in
    then_small 16777216 (file_fault file) (last_ground (the_settings letters k m) t c)
    (fault_has (PlaceUpTo 16777216) 16777216 file (λ i p e h. h) (ready_file letters k m (length t) file.bytes ready))
    (λ _. last_small letters k m t c)

-- With the list's own ground too.
into_small : (letters : List ℕ) (k m : ℕ) (t : List ℕ) (c : Call) (room : ℕ) → Small 16777216 (into_ground (the_settings letters k m) t c room)
unfolding into_ground
into_small letters k m t c room =
    let file = call_file c in
    let short = ground_at 7 (too_short room 5) in
    let rest = file_fault file or_else last_ground (the_settings letters k m) t c in
    then_small 16777216 (ready_ground (the_settings letters k m) (length t) file.bytes) (short or_else rest) (ready_small letters k m (length t) file.bytes)
    (λ ready. then_small 16777216 short rest (place_small 16777216 7 (too_short room 5) (λ p e. omega (arith, room_small room 5 p e)))
    (λ _. rest_small letters k m t c ready))

-- ---- `kmer_add` and `kmer_withdraw`

module _ (letters : List ℕ) (k m : ℕ) (t : List ℕ) (c : Call) (old : List ℕ) where
  -- With room for the answer, the grounds are those of `table::call`.
  pub same_ground : 5 ≤ length old → into_ground (the_settings letters k m) t c (length old) ≡ table_ground (the_settings letters k m) t c
  unfolding into_ground call_ground
  same_ground h = rw (le-ltb (length old) 5 h)

  -- Without it they are those before the list's own, and then that one, so that there is always one.
  pub short_ground : ltb (length old) 5 ≡ true
      → into_ground (the_settings letters k m) t c (length old) ≡ Some (unwrap_or (ready_ground (the_settings letters k m) (length t) (call_file c).bytes) (7, 5))
  unfolding into_ground
  short_ground e = rw e (go (ready_ground (the_settings letters k m) (length t) (call_file c).bytes))
    where
      go : (g : Option Ground) → g or_else Some (7, 5) ≡ Some (unwrap_or g (7, 5))
      go None = refl
      go (Some f) = refl

  -- Where no ground applies there is room for it.
  pub room_for_five : into_ground (the_settings letters k m) t c (length old) ≡ None → 5 ≤ length old
  unfolding into_ground
  room_for_five e =
      let behind-ready = later_none (ready_ground (the_settings letters k m) (length t) (call_file c).bytes) _ e in
      room_enough (length old) 5 (nowhere_met 7 _ (first_none (ground_at 7 (too_short (length old) 5)) _ behind-ready))

  -- No call changes the table's length.
  pub as_long : {r : ℕ} {t' new : List ℕ} → CallsInto (the_settings letters k m) t c old r t' new → length t' ≡ length t
  as_long A = ap length A.table_left ∙ go (into_ground (the_settings letters k m) t c (length old))
    where
      go : (g : Option Ground) → length (unless_refused g (table_after (the_settings letters k m) t c) t) ≡ length t
      go None = length_changes (per_window c) (places (the_settings letters k m) (call_file c)) t
      go (Some f) = refl

  -- The P of a refusal fits beside its number.
  pub told_fits : {answer : Outcome ℕ} {t' new : List ℕ} → AnswersInto (the_settings letters k m) t c old answer t' new → PlaceFits answer
  told_fits A = answer_fits (into_ground (the_settings letters k m) t c (length old)) 5 16777216 A.answers (into_small letters k m t c (length old)) (omega arith)

  kept : (f : Ground) → into_ground (the_settings letters k m) t c (length old) ≡ Some f → AnswersInto (the_settings letters k m) t c old (refused f) t old
  kept f e = record { answers = rw e; table_left = rw e; answer_left = rw e }

  -- Before the file is read.
  module _ (file : File) (of : call_file c ≡ file) where
    pub into_bad : (x : Checked) (f : Ground) → refused f ≡ outcome (ready_ground (the_settings letters k m) (length t) file.bytes) x → AnswersInto (the_settings letters k m) t c old (refused f) t old
    unfolding into_ground
    into_bad x f e = kept f (rw (of, refused_is f x _ e))

    pub into_short : (x : Checked) {st : Checked} → given st ≡ outcome (ready_ground (the_settings letters k m) (length t) file.bytes) x → length old < 5
        → AnswersInto (the_settings letters k m) t c old (refused (7, 5)) t old
    unfolding into_ground
    into_short x e h = kept (7, 5) (rw (of, (passed x _ e).none_applies_lem, lt-ltb (length old) 5 h))

  module _ (room : 5 ≤ length old) {t' : List ℕ} where
    pub into_refused : (f : Ground) → Called (the_settings letters k m) t c (refused f) t' → AnswersInto (the_settings letters k m) t c old (refused f) t' old
    into_refused f A =
        let is = refused_is f _ (table_ground (the_settings letters k m) t c) A.answers in
        record {
          answers = rw (same_ground room, is);
          table_left = rw (same_ground room) A.leaves;
          answer_left = rw (same_ground room, is);
        }

    pub into_taken : (n : Numbers) → Called (the_settings letters k m) t c (given n) t' → {new : List ℕ} → new ≡ five_numbers n ++ drop 5 old
        → AnswersInto (the_settings letters k m) t c old (given 5) t' new
    into_taken n A w =
        let p = passed (file_numbers (rank_in letters) k (call_file c)) (table_ground (the_settings letters k m) t c) A.answers in
        record {
          answers = rw (same_ground room, p.none_applies_lem);
          table_left = rw (same_ground room) A.leaves;
          answer_left = rw (same_ground room, p.none_applies_lem) (w ∙ ap (λ (x : Numbers). five_numbers x ++ drop 5 old) p.value);
        }
