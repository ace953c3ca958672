-- The claims of document 02, K8: a test load is a sequence file that no ground of its own refuses (`test_load_clean`), of so many records and letters, none of
-- them foreign (`test_load_numbers`), whose windows are those of its records' letters (`test_load_windows`); so a scan answers these numbers
-- (`test_load_scanned`), and so does an add, unless 12 applies (`test_load_added`). From what each of its bytes is. And which ground refuses a text by its length
-- and the room for it (`larger_gives_6`, `short_buffer_gives_7`, `room_gives_none`).
use Rattle.std.proofs.Common.{◌≡◌, refl, sym, ap, ◌∙◌, true, false, Option, None, Some, List, [], ◌∷◌, ◌++◌, map, append-nil, ℕ, zero, suc, ◌+◌, ◌-◌, ◌*◌, ◌<◌, ◌≤◌, min, arith, zero-mul, length, length-append, lt-ltb, le-ltb}
use Rattle.laws.specs.Each.{Each}
use Rattle.laws.specs.Windows.{windows}
use Rattle.laws.proofs.Windows.{length-windows}
use Rattle.settings.specs.Grounds.{given, ground, outcome}
use Rattle.settings.specs.Settings.{rank_in, settings_ground}
use Rattle.settings.proofs.SettingsGrounds.{good_settings}
use Rattle.settings.proofs.LetterPlaces.{capitals_differ}
use Rattle.lines.specs.Lines.{on_first}
use Rattle.fasta.specs.declared.Item.{Item}
use Rattle.fasta.specs.declared.Item.TheVariants.{Opens, Skip, Letter, Stray}
use Rattle.fasta.specs.declared.Mode.TheVariants.{Start, Header}
use Rattle.fasta.specs.File.{item, next, items_from, fault_from}
use Rattle.fasta.specs.Items.{records_in, letters_in, foreign_in, one_if_foreign, marks, runs, edge, edges_of, windows_of}
use Rattle.files.specs.File.{file_fault, file_numbers, file_windows, items}
use Rattle.settings.specs.Limits.{too_long}
use Rattle.files.specs.Scan.{scan_ground}
use Rattle.tally_book.specs.Table.{ready_ground, call_ground, table_ground, table_full, add}
use Rattle.testload.specs.TestLoad.{drawn, state_after, record_text, records_from, test_load, generate_ground}
use Rattle.testload.specs.Claims.{load_file, load_numbers, drawn_records}
use Rattle.testload.proofs.Drawn.{length-drawn}
use Rattle.testload.proofs.Items.{load_marks, Sound, opens, skip, letter, Part, load_part}
use Rattle.settings.specs.Given.{the_settings}

-- ---- items that are sound

module _ (letters : List ℕ) where
  sound_fault : (at : ℕ) (is : List Item) → Each (Sound letters) is → fault_from true at is ≡ None
  unfolding fault_from
  sound_fault at [] e = refl
  sound_fault at (i ∷ is) e = go i e.0 (sound_fault (suc at) is e.1)
    where
      go : (i : Item) → Sound letters i → fault_from true (suc at) is ≡ None → fault_from true at (i ∷ is) ≡ None
      go Opens opens ih = ih
      go Skip skip ih = ih
      go (Letter b) (letter f) ih = ih
      go Stray x ih = elim x [ ]

  sound_foreign : (is : List Item) → Each (Sound letters) is → foreign_in (rank_in letters) is ≡ 0
  unfolding foreign_in one_if_foreign
  sound_foreign [] e = refl
  sound_foreign (i ∷ is) e = go i e.0 (sound_foreign is e.1)
    where
      go : (i : Item) → Sound letters i → foreign_in (rank_in letters) is ≡ 0 → foreign_in (rank_in letters) (i ∷ is) ≡ 0
      go Opens opens ih = ih
      go Skip skip ih = ih
      go (Letter b) (letter f) ih = rw (f, ih)
      go Stray x ih = elim x [ ]

  -- The first byte of a file with a record opens it.
  opened : (rest : List ℕ) → Each (Sound letters) (items_from Start (62 ∷ rest)) → fault_from false 0 (items_from Start (62 ∷ rest)) ≡ None
  unfolding items_from item next fault_from
  opened rest e = sound_fault 1 (items_from Header rest) e.1

  clean_from : (start each records : ℕ) → Each (Sound letters) (items (load_file letters start records each))
      → file_fault (load_file letters start records each) ≡ None
  unfolding records_from record_text items_from fault_from
  clean_from start each zero e = refl
  clean_from start each (suc records) e = opened _ e

-- ---- its runs

runs-some : (w : List ℕ) (ms : List (Option ℕ)) (rs : List (List ℕ)) → runs ms ≡ [] ∷ rs → runs (map (λ (r : ℕ). Some r) w ++ ms) ≡ w ∷ rs
unfolding runs on_first
runs-some [] ms rs e = e
runs-some (x ∷ w) ms rs e = rw (runs-some w ms rs e)

-- An empty run before the first header, then one for each record.
load_runs : (s each records x : ℕ) → runs (load_marks s each records x) ≡ [] ∷ drawn_records s each records x
unfolding runs load_marks drawn_records
load_runs s each zero x = refl
load_runs s each (suc records) x =
    rw (runs-some (drawn s each x) (load_marks s each records (state_after each x)) _ (load_runs s each records (state_after each x)))

-- An empty run has no edge letter.
edges_first : (k : ℕ) (rs : List (List ℕ)) → edges_of k ([] ∷ rs) ≡ edges_of k rs
unfolding edges_of edge
edges_first k rs = omega arith

edges_drawn : (s k each records x : ℕ) → edges_of k (drawn_records s each records x) ≡ records * min each (k - 1)
unfolding edges_of edge drawn_records
edges_drawn s k each zero x = sym (zero-mul (min each (k - 1)))
edges_drawn s k each (suc records) x = rw (length-drawn s each x, edges_drawn s k each records (state_after each x)) (omega arith)

windows-drawn : (s k each records x : ℕ) → 1 ≤ k → length (windows_of k (drawn_records s each records x)) ≡ records * (each - (k - 1))
unfolding windows_of drawn_records
windows-drawn s k each zero x h = sym (zero-mul (each - (k - 1)))
windows-drawn s k each (suc records) x h =
    length-append (windows k (drawn s each x)) (windows_of k (drawn_records s each records (state_after each x)))
    ∙ rw (length-windows k h (drawn s each x), length-drawn s each x, windows-drawn s k each records (state_after each x) h)
    (let one : each + 1 - k ≡ each - (k - 1) = omega arith in rw one (omega arith))

-- ---- the file

module _ (letters : List ℕ) (k m : ℕ) (good : settings_ground (the_settings letters k m) ≡ None) (start records each : ℕ) where
  part : Part letters Start (test_load letters start records each) Start [] records (records * each) (load_marks (length letters) each records start)
  part =
      load_part letters (capitals_differ letters k m good) (omega (arith, (good_settings letters k m good).two)) each records 1 start

  sound : Each (Sound letters) (items (load_file letters start records each))
  unfolding items_from
  sound = part.sound tt

  pub test_load_clean : file_fault (load_file letters start records each) ≡ None
  test_load_clean = clean_from letters start each records sound

  marks_are : marks (rank_in letters) (items (load_file letters start records each)) ≡ load_marks (length letters) each records start
  unfolding items_from marks
  marks_are = part.marks_are ∙ append-nil (load_marks (length letters) each records start)

  runs_are : runs (marks (rank_in letters) (items (load_file letters start records each))) ≡ [] ∷ drawn_records (length letters) each records start
  runs_are = ap runs marks_are ∙ load_runs (length letters) each records start

  pub test_load_windows : file_windows (rank_in letters) k (load_file letters start records each) ≡ windows_of k (drawn_records (length letters) each records start)
  unfolding windows_of windows
  test_load_windows = rw runs_are

  pub test_load_numbers : file_numbers (rank_in letters) k (load_file letters start records each) ≡ load_numbers k records each
  unfolding items_from records_in letters_in
  test_load_numbers =
      let records_are : records_in (items (load_file letters start records each)) ≡ records = omega (arith, part.records_are) in
      let letters_are : letters_in (items (load_file letters start records each)) ≡ records * each = omega (arith, part.letters_are) in
      let some_k = (good_settings letters k m good).some_k in
      rw (
        records_are,
        letters_are,
        sound_foreign letters _ sound,
        test_load_windows,
        runs_are,
        edges_first k (drawn_records (length letters) each records start),
        edges_drawn (length letters) k each records start,
        windows-drawn (length letters) k each records start some_k,
      )

  -- "Every such file within 16,777,216 bytes": a scan answers its numbers.
  pub test_load_scanned : length (test_load letters start records each) ≤ 16777216
      → outcome (scan_ground (the_settings letters k m) (load_file letters start records each)) (file_numbers (rank_in letters) k (load_file letters start records each))
      ≡ given (load_numbers k records each)
  unfolding scan_ground too_long
  test_load_scanned h = rw (good, le-ltb 16777216 (length (test_load letters start records each)) h, test_load_clean, test_load_numbers)

  -- Where the file is within 16,777,216 bytes and the table has a place for each of so many classes at the most (`ready_ground`), an add answers these numbers
  -- unless 12 applies.
  pub test_load_added : (t : List ℕ) → ready_ground (the_settings letters k m) (length t) (test_load letters start records each) ≡ None
      → outcome (table_ground (the_settings letters k m) t (add (load_file letters start records each))) (file_numbers (rank_in letters) k (load_file letters start records each))
      ≡ outcome (ground 12 (table_full (the_settings letters k m) t (load_file letters start records each))) (load_numbers k records each)
  unfolding call_ground
  test_load_added t ready = rw (ready, test_load_clean, test_load_numbers)

-- ---- its length and the room for it

module _ (letters : List ℕ) (k m : ℕ) (good : settings_ground (the_settings letters k m) ≡ None) (text : List ℕ) (room : ℕ) where
  -- "a larger one gives 6", whatever the buffer.
  pub larger_gives_6 : 16777216 < length text → generate_ground (the_settings letters k m) text room ≡ Some (6, 0)
  unfolding generate_ground too_long
  larger_gives_6 long = rw (good, lt-ltb 16777216 (length text) long)

  module _ (small : length text ≤ 16777216) where
    -- "and a short buffer 7", with the length needed.
    pub short_buffer_gives_7 : room < length text → generate_ground (the_settings letters k m) text room ≡ Some (7, length text)
    unfolding generate_ground too_long
    short_buffer_gives_7 short = rw (good, le-ltb 16777216 (length text) small, lt-ltb room (length text) short)

    pub room_gives_none : length text ≤ room → generate_ground (the_settings letters k m) text room ≡ None
    unfolding generate_ground too_long
    room_gives_none enough = rw (good, le-ltb 16777216 (length text) small, le-ltb room (length text) enough)
