-- The grounds of the table calls one after the other, as the calls meet them: what is answered and left at each.
use Rattle.std.proofs.Common.{◌≡◌, ap, ◌∙◌, ℕ, ◌<◌, ◌≤◌, arith, false, ◌||◌, None, Some, List, ◌++◌, length, drop, replicate, lt-ltb, le-ltb, ltb-false}
use mathlib.Mathlib.Data.Bool.Basic.{or-eq-false-eq-eq-false-and-eq-false}
use lib.ListN.{length-replicate}
use Rattle.settings.specs.declared.Checked.{Checked}
use Rattle.settings.specs.Grounds.{Ground, Outcome, given, refused, ground, ground_at, too_short, outcome, ◌or_else◌}
use Rattle.settings.specs.Settings.{rank_in, settings_ground, settings_of}
use Rattle.settings.proofs.Outcomes.{refused_is, refused_on, refused_by, given_by, refused_leaves, Passed, passed, first_none, later_none, test_fails, kept_by, set_by, kept_on}
use Rattle.settings.proofs.SettingsGrounds.{known}
use Rattle.fasta.specs.declared.Numbers.{Numbers}
use Rattle.files.specs.File.{File, start_of, file_fault, file_numbers}
use Rattle.settings.specs.Limits.{too_long}
use Rattle.settings.specs.declared.RankTable.{RankTable}
use Rattle.settings.specs.RankTables.{rank_by_table}
use Rattle.fasta.proofs.Ranks.{numbers_by_table}
use Rattle.tally_book.specs.Table.{class_count, too_many, ready_ground, call_ground, clear_ground, Call, call_file, last_ground, table_ground, table_after, Called, Clears}
use Rattle.tally_book.proofs.Ready.{ready_settings, ready_room}
use Rattle.settings.proofs.SettingsGrounds.{good_settings}
use Rattle.kernels.specs.declared.Kernel.{Kernel}
use Rattle.kernels.specs.declared.Coder.{Coder}
use Rattle.kernels.specs.Kernels.{GoodSettings}
use Rattle.kernels.specs.Coders.{CoderOf}
use Rattle.kernels.proofs.GoodSettings.{good}
use Rattle.counts.specs.declared.Way.{Way}
use Rattle.counts.specs.Calls.{call_of}
use Rattle.second_pass.specs.Needs.{codes_of, TableUnlessRefused, CalledUnlessRefused, CleanFile}
use Rattle.second_pass.proofs.SecondPass.{file_of_lem, few_windows, codes_are, whole_table}
use Rattle.table.specs.Needs.{room_ground}
use Rattle.settings.specs.Given.{the_settings}

-- ---- the room of a table

module _ (n room : ℕ) where
  pub room_many : 16777216 < n → refused (6, 0) ≡ outcome (room_ground n room) n
  unfolding too_many
  room_many h = rw (lt-ltb 16777216 n h)

  pub room_short : n ≤ 16777216 → room < n → refused (7, n) ≡ outcome (room_ground n room) n
  unfolding too_many
  room_short h g = rw (le-ltb 16777216 n h, lt-ltb room n g)

  pub room_given : n ≤ 16777216 → n ≤ room → given n ≡ outcome (room_ground n room) n
  unfolding too_many
  room_given h g = rw (le-ltb 16777216 n h, le-ltb room n g)

-- ---- clearing

module _ (letters : List ℕ) (k m : ℕ) (t : List ℕ) where
  pub clearing_refused : (f : Ground) → refused f ≡ outcome (settings_ground (the_settings letters k m)) (settings_of (the_settings letters k m)) → Clears (the_settings letters k m) t (refused f) t
  unfolding clear_ground
  clearing_refused f e =
      kept_on f (settings_of (the_settings letters k m)) (settings_ground (the_settings letters k m)) _ (class_count (the_settings letters k m)) (replicate (class_count (the_settings letters k m)) 0) t e

  module _ {st : Checked} (e : given st ≡ outcome (settings_ground (the_settings letters k m)) (settings_of (the_settings letters k m))) where
    pub clearing_short : (f : Ground) → refused f ≡ outcome (room_ground st.classes (length t)) st.classes → Clears (the_settings letters k m) t (refused f) t
    unfolding clear_ground
    clearing_short f r =
        let K = known letters k m st e in
        let g : room_ground (class_count (the_settings letters k m)) (length t) ≡ Some f = rw K.classes_are at (refused_is f st.classes _ r) in
        kept_by _ (class_count (the_settings letters k m)) (replicate (class_count (the_settings letters k m)) 0) t f (rw K.none_applies_lem g)

    pub cleared : {n : ℕ} {t' : List ℕ} → given n ≡ outcome (room_ground st.classes (length t)) st.classes → t' ≡ replicate n 0 ++ drop n t
        → Clears (the_settings letters k m) t (given n) t'
    unfolding clear_ground
    cleared {n} {t'} r e' =
        let K = known letters k m st e in
        let P = passed st.classes (room_ground st.classes (length t)) r in
        let c : n ≡ class_count (the_settings letters k m) = P.value ∙ K.classes_are in
        let g : room_ground (class_count (the_settings letters k m)) (length t) ≡ None = rw K.classes_are at P.none_applies_lem in
        let zeros : t' ≡ replicate (class_count (the_settings letters k m)) 0 ++ drop (class_count (the_settings letters k m)) t = rw c at e' in
        rw c
        (set_by _ (class_count (the_settings letters k m)) (replicate (class_count (the_settings letters k m)) 0) t t' (rw K.none_applies_lem g)
        (zeros ∙ rw (length-replicate {A = ℕ} (class_count (the_settings letters k m)) 0)))

-- ---- before the file of a call is read

-- Where ground 6 does not apply, the file is short enough and the classes are few enough.
module _ (letters : List ℕ) (k m : ℕ) (bytes : List ℕ) (e : ground 6 (too_long bytes || too_many (class_count (the_settings letters k m))) ≡ None) where
  neither : (too_long bytes ≡ false) × (too_many (class_count (the_settings letters k m)) ≡ false)
  neither =
      (or-eq-false-eq-eq-false-and-eq-false (too_long bytes) (too_many (class_count (the_settings letters k m)))).0
      (test_fails 6 (too_long bytes || too_many (class_count (the_settings letters k m))) e)

  file_short : length bytes ≤ 16777216
  unfolding too_long
  file_short = ltb-false 16777216 (length bytes) neither.0

  pub classes_few : class_count (the_settings letters k m) ≤ 16777216
  unfolding too_many
  classes_few = ltb-false 16777216 (class_count (the_settings letters k m)) neither.1

module _ (letters : List ℕ) (k m room : ℕ) (bytes : List ℕ) where
  -- What `ready` answers at each of its tests.
  pub ready_bad : (f : Ground) → refused f ≡ outcome (settings_ground (the_settings letters k m)) (settings_of (the_settings letters k m))
      → refused f ≡ outcome (ready_ground (the_settings letters k m) room bytes) (settings_of (the_settings letters k m))
  unfolding ready_ground
  ready_bad f e = refused_on f (settings_of (the_settings letters k m)) _ (settings_ground (the_settings letters k m)) _ e

  module _ {st : Checked} (e : given st ≡ outcome (settings_ground (the_settings letters k m)) (settings_of (the_settings letters k m))) where
    pub ready_long : 16777216 < length bytes → refused (6, 0) ≡ outcome (ready_ground (the_settings letters k m) room bytes) (settings_of (the_settings letters k m))
    unfolding ready_ground too_long
    ready_long h = rw ((known letters k m st e).none_applies_lem, lt-ltb 16777216 (length bytes) h)

    module _ (h : length bytes ≤ 16777216) where
      -- What is left of the grounds: those of the table's room.
      room_left : ready_ground (the_settings letters k m) room bytes ≡ room_ground st.classes room
      unfolding ready_ground too_long
      room_left = let K = known letters k m st e in rw (K.none_applies_lem, le-ltb 16777216 (length bytes) h, K.classes_are)

      pub ready_short : (f : Ground) → refused f ≡ outcome (room_ground st.classes room) st.classes
          → refused f ≡ outcome (ready_ground (the_settings letters k m) room bytes) (settings_of (the_settings letters k m))
      ready_short f r = refused_by f (settings_of (the_settings letters k m)) _ (room_left ∙ refused_is f st.classes _ r)

      pub ready_given : {n : ℕ} → given n ≡ outcome (room_ground st.classes room) st.classes
          → given st ≡ outcome (ready_ground (the_settings letters k m) room bytes) (settings_of (the_settings letters k m))
      ready_given r =
          given_by st (settings_of (the_settings letters k m)) _ (room_left ∙ (passed st.classes (room_ground st.classes room) r).none_applies_lem)
          (passed (settings_of (the_settings letters k m)) (settings_ground (the_settings letters k m)) e).value

  -- What a call knows where none of them applies.
  module _ (ready : ready_ground (the_settings letters k m) room bytes ≡ None) where
    sizes : ground 6 (too_long bytes || too_many (class_count (the_settings letters k m))) or_else ground_at 7 (too_short room (class_count (the_settings letters k m))) ≡ None
    unfolding ready_ground
    sizes = later_none (settings_ground (the_settings letters k m)) _ ready

    pub ready_file : length bytes ≤ 16777216
    ready_file = file_short letters k m bytes (first_none _ (ground_at 7 (too_short room (class_count (the_settings letters k m)))) sizes)

module _ (letters : List ℕ) (k m : ℕ) (t : List ℕ) (c : Call) (file : File) (of : call_file c ≡ file) where
  -- Refused before the file is read.
  pub not_ready : (f : Ground) → refused f ≡ outcome (ready_ground (the_settings letters k m) (length t) file.bytes) (settings_of (the_settings letters k m))
      → Called (the_settings letters k m) t c (refused f) t
  unfolding call_ground
  not_ready f e =
      let ready = ready_ground (the_settings letters k m) (length t) (call_file c).bytes in
      let refuses : refused f ≡ outcome ready (settings_of (the_settings letters k m)) = rw of e in
      record {
        answers = refused_on f (settings_of (the_settings letters k m)) (file_numbers (rank_in letters) k (call_file c)) ready _ refuses;
        leaves = refused_leaves f (settings_of (the_settings letters k m)) ready _ (table_after (the_settings letters k m) t c) t refuses;
      }

  module _ (ready : ready_ground (the_settings letters k m) (length t) file.bytes ≡ None) where
    -- What is left of the grounds: a fault of the file, and then the last ground.
    grounds_left : table_ground (the_settings letters k m) t c ≡ file_fault file or_else last_ground (the_settings letters k m) t c
    unfolding call_ground
    grounds_left = rw (of, ready)

    pub faulty : (ranks : RankTable) (f : Ground) → refused f ≡ outcome (file_fault file) (file_numbers (rank_by_table ranks) k file)
        → Called (the_settings letters k m) t c (refused f) t
    faulty ranks f e =
        let found = file_numbers (rank_by_table ranks) k file in
        record {
          answers = rw grounds_left (refused_on f found (file_numbers (rank_in letters) k (call_file c)) (file_fault file) _ e);
          leaves = rw grounds_left (refused_leaves f found (file_fault file) _ (table_after (the_settings letters k m) t c) t e);
        }

    pub called : (answer : Outcome Numbers) (t' : List ℕ) → file_fault file ≡ None → CalledUnlessRefused (the_settings letters k m) t c answer t'
        → Called (the_settings letters k m) t c answer t'
    called answer t' no_fault A =
        let e : table_ground (the_settings letters k m) t c ≡ last_ground (the_settings letters k m) t c = grounds_left ∙ rw no_fault in
        record { answers = A.answers ∙ rw e; leaves = A.leaves ∙ rw e }

-- ---- a call for which `ready` gave settings

module _ (letters : List ℕ) (k m : ℕ) (t : List ℕ) (file : File) {st : Checked}
    (e : given st ≡ outcome (ready_ground (the_settings letters k m) (length t) file.bytes) (settings_of (the_settings letters k m))) where
  R : Passed (ready_ground (the_settings letters k m) (length t) file.bytes) st (settings_of (the_settings letters k m))
  R = passed (settings_of (the_settings letters k m)) (ready_ground (the_settings letters k m) (length t) file.bytes) e

  settings_pass : settings_ground (the_settings letters k m) ≡ None
  settings_pass = ready_settings letters k m (length t) file.bytes R.none_applies_lem

  pub coder_good : GoodSettings letters st
  coder_good = good letters k m st settings_pass R.value

  pub can_scan : (length file.bytes ≤ 16777216) × (1 ≤ k)
  can_scan = (ready_file letters k m (length t) file.bytes R.none_applies_lem, (good_settings letters k m settings_pass).some_k)

  classes_are : st.classes ≡ class_count (the_settings letters k m)
  classes_are = ap (λ (x : Checked). x.classes) R.value

  pub long_enough : st.classes ≤ length t
  long_enough = omega (arith, classes_are, ready_room letters k m (length t) file.bytes R.none_applies_lem)

  -- Faults of the file.
  pub scan_refused : (way : Way) (ranks : RankTable) (f : Ground) → refused f ≡ outcome (file_fault file) (file_numbers (rank_by_table ranks) k file)
      → Called (the_settings letters k m) t (call_of way file) (refused f) t
  scan_refused way ranks f r = faulty letters k m t (call_of way file) file (file_of_lem way file) R.none_applies_lem ranks f r

  module _ {kernel : Kernel} {c : Coder} (C : CoderOf letters st kernel c) {n : Numbers}
      (r : given n ≡ outcome (file_fault file) (file_numbers (rank_by_table c.ranks) k file)) where
    clean : CleanFile letters k file n
    clean =
        let p = passed (file_numbers (rank_by_table c.ranks) k file) (file_fault file) r in
        record {
          no_fault = p.none_applies_lem;
          numbers = p.value ∙ numbers_by_table letters c.ranks C.ranks_are k (start_of file.kind) file.bytes;
          short = can_scan.0;
        }

    pub windows_few : n.windows ≤ 16777216
    windows_few = few_windows clean m settings_pass

    pub call_done : (way : Way) {answer : Outcome Numbers} {t' : List ℕ} → TableUnlessRefused way n (codes_of c file) st.classes t answer t'
        → Called (the_settings letters k m) t (call_of way file) answer t'
    call_done way {answer} {t'} T =
        called letters k m t (call_of way file) file (file_of_lem way file) R.none_applies_lem answer t' clean.no_fault
        (whole_table letters k m t file settings_pass n clean way st.classes (codes_of c file) answer t' classes_are (codes_are letters k m R.value C file) T)
