-- The second pass over a file: that there is room for its windows, what a coder of the settings makes of a file, and from the counts of the classes to the whole
-- table.
use Rattle.std.proofs.Common.{◌≡◌, refl, sym, ap, ◌∙◌, ℕ, ◌≤◌, arith, false, Option, None, Some, List, ◌++◌, map, length, take, drop, take-append-drop, take_all}
use lib.ListN.{length-map}
use Rattle.settings.specs.declared.Checked.{Checked}
use Rattle.settings.specs.Grounds.{Ground, Outcome, ground, outcome, unless_refused}
use Rattle.settings.specs.Settings.{rank_in, mirror_of, classes, settings_ground, settings_of}
use Rattle.settings.proofs.SettingsGrounds.{good_settings}
use Rattle.encoding.specs.Codes.{code}
use Rattle.fasta.specs.declared.Numbers.{Numbers}
use Rattle.files.specs.File.{File, start_of, file_numbers}
use Rattle.fasta.proofs.Ranks.{windows_by_table}
use Rattle.fasta.proofs.Runs.{windows-fit}
use Rattle.tally_book.specs.Table.{class_count, place_of, windows_of_file, places, changes, one_more, one_less, full, call_file, last_ground, table_after}
use Rattle.counts.specs.Needs.{by_way, Fits}
use Rattle.counts.proofs.CountLoops.{room_fits}
use Rattle.counts.specs.declared.Way.{Way}
use Rattle.counts.specs.declared.Way.TheVariants.{In, Out}
use Rattle.counts.specs.Calls.{call_of}
use Rattle.kernels.specs.declared.Kernel.{Kernel}
use Rattle.kernels.specs.declared.Coder.{Coder}
use Rattle.kernels.specs.Coders.{CoderOf}
use Rattle.second_pass.specs.Needs.{codes_of, last_of, ChangedUnlessRefused, TableUnlessRefused, CalledUnlessRefused, CleanFile}
use Rattle.tally_book.proofs.Changes.{changes_front}
use Rattle.tally_book.proofs.Full.{not_full}
use Rattle.tally_book.proofs.Classes.{places_below}
use Rattle.settings.specs.Given.{the_settings}

-- Where ground 12 does not apply, there is room for all the windows.
pub counts-free : (n : ℕ) (codes counts : List ℕ) → false ≡ full n counts → n ≤ 16777216 → n ≡ length codes → Fits (take n codes) counts
counts-free n codes counts e h l =
    rw (take_all n codes (omega arith)) (room_fits n counts codes (λ q g. omega (arith, not_full n counts q (sym e) g)) (omega arith))

-- ---- the coder of settings, and a file that was scanned without fault

module _ (letters : List ℕ) (k m : ℕ) {st : Checked} {kernel : Kernel} {c : Coder} (is : st ≡ settings_of (the_settings letters k m)) (C : CoderOf letters st kernel c) where
  s_is : c.s ≡ length letters
  s_is = C.s_is ∙ ap (λ (x : Checked). x.s) is

  mirror_is : c.mirror ≡ mirror_of m
  mirror_is = C.mirror_is ∙ ap (λ (x : Checked). x.mirror) is

  k_is : c.k ≡ k
  k_is = C.k_is ∙ ap (λ (x : Checked). x.k) is

  pub classes_are : st.classes ≡ classes c.s c.mirror c.k
  classes_are = ap (λ (x : Checked). x.classes) is ∙ rw (s_is, mirror_is, k_is)

  -- The codes of a file's windows are the places of its words.
  pub codes_are : (file : File) → codes_of c file ≡ places (the_settings letters k m) file
  unfolding windows_of_file
  codes_are file =
      rw (s_is, mirror_is, k_is)
      (ap (map (code (length letters) (mirror_of m) k)) (windows_by_table letters c.ranks C.ranks_are k (start_of file.kind) file.bytes))

  pub n_windows : {file : File} {n : Numbers} → CleanFile letters k file n → n.windows ≡ length (codes_of c file)
  unfolding windows_of_file
  n_windows {file} {n} F =
      ap (λ (x : Numbers). x.windows) F.numbers
      ∙ sym (length-map (windows_of_file letters k file) (place_of (the_settings letters k m)))
      ∙ ap length (sym (codes_are file))

pub few_windows : {letters : List ℕ} {k : ℕ} {file : File} {n : Numbers} → CleanFile letters k file n → (m : ℕ) → settings_ground (the_settings letters k m) ≡ None
    → n.windows ≤ 16777216
few_windows {letters} {k} {file} {n} F m good =
    let w : n.windows ≡ (file_numbers (rank_in letters) k file).windows = ap (λ (x : Numbers). x.windows) F.numbers in
    omega (arith, w, windows-fit (rank_in letters) k (start_of file.kind) file.bytes (good_settings letters k m good).some_k, F.short)

-- ---- from the table to its counts and back

-- The file of a call by its way.
pub file_of_lem : (way : Way) (file : File) → call_file (call_of way file) ≡ file
file_of_lem In file = refl
file_of_lem Out file = refl

module _ (letters : List ℕ) (k m : ℕ) (t : List ℕ) (file : File) (good : settings_ground (the_settings letters k m) ≡ None) (n : Numbers)
    (F : CleanFile letters k file n) where
  -- The last ground is read alike from the counts and from the table.
  last_same : (way : Way) → last_of way (places (the_settings letters k m) file) (take (class_count (the_settings letters k m)) t) ≡ last_ground (the_settings letters k m) t (call_of way file)
  last_same In =
      ap (λ (w : ℕ). ground 12 (full w (take (class_count (the_settings letters k m)) t))) (length-map (windows_of_file letters k file) (place_of (the_settings letters k m)))
  last_same Out = refl

  -- And what is left in the counts, the later places put behind them, is what is left in the table.
  moved_front : (way : Way)
      → changes (by_way way) (take (class_count (the_settings letters k m)) t) (places (the_settings letters k m) file) ++ drop (class_count (the_settings letters k m)) t
      ≡ table_after (the_settings letters k m) t (call_of way file)
  moved_front In = changes_front one_more (class_count (the_settings letters k m)) t (places (the_settings letters k m) file) (places_below letters k m good file)
  moved_front Out = changes_front one_less (class_count (the_settings letters k m)) t (places (the_settings letters k m) file) (places_below letters k m good file)

  leaves_by : (g : Option Ground) (new old counts' : List ℕ) → old ≡ take (class_count (the_settings letters k m)) t → counts' ≡ unless_refused g new old
      → counts' ++ drop (class_count (the_settings letters k m)) t ≡ unless_refused g (new ++ drop (class_count (the_settings letters k m)) t) t
  leaves_by None new old counts' o e = ap (λ (x : List ℕ). x ++ drop (class_count (the_settings letters k m)) t) e
  leaves_by (Some g) new old counts' o e =
      ap (λ (x : List ℕ). x ++ drop (class_count (the_settings letters k m)) t) (e ∙ o) ∙ take-append-drop (class_count (the_settings letters k m)) t

  by_classes : (way : Way) (ps : List ℕ) (answer : Outcome Numbers) (counts' : List ℕ) → ps ≡ places (the_settings letters k m) file
      → ChangedUnlessRefused way n ps (take (class_count (the_settings letters k m)) t) answer counts'
      → CalledUnlessRefused (the_settings letters k m) t (call_of way file) answer (counts' ++ drop (class_count (the_settings letters k m)) t)
  by_classes way ps answer counts' e C =
      let front = take (class_count (the_settings letters k m)) t in
      let last : last_of way ps front ≡ last_ground (the_settings letters k m) t (call_of way file) =
      ap (λ (x : List ℕ). last_of way x front) e ∙ last_same way in
      let left = leaves_by (last_of way ps front) (changes (by_way way) front ps) front counts' refl C.leaves in
      let new : changes (by_way way) front ps ++ drop (class_count (the_settings letters k m)) t ≡ table_after (the_settings letters k m) t (call_of way file) =
      ap (λ (x : List ℕ). changes (by_way way) front x ++ drop (class_count (the_settings letters k m)) t) e ∙ moved_front way in
      record {
        answers =
            C.answers
            ∙ ap (λ (g : Option Ground). outcome g n) last
            ∙ ap (outcome (last_ground (the_settings letters k m) t (call_of way file))) (F.numbers ∙ ap (file_numbers (rank_in letters) k) (sym (file_of_lem way file)));
        leaves =
            left
            ∙ ap (λ (g : Option Ground). unless_refused g (changes (by_way way) front ps ++ drop (class_count (the_settings letters k m)) t) t) last
            ∙ ap (λ (x : List ℕ). unless_refused (last_ground (the_settings letters k m) t (call_of way file)) x t) new;
      }

  -- What the second pass answers and leaves is what the call does.
  pub whole_table : (way : Way) (cs : ℕ) (ps : List ℕ) (answer : Outcome Numbers) (t' : List ℕ) → cs ≡ class_count (the_settings letters k m)
      → ps ≡ places (the_settings letters k m) file
      → TableUnlessRefused way n ps cs t answer t'
      → CalledUnlessRefused (the_settings letters k m) t (call_of way file) answer t'
  whole_table way cs ps answer t' c e T =
      let whole : take cs t' ++ drop cs t ≡ t' = ap (λ (x : List ℕ). take cs t' ++ x) (sym T.later) ∙ take-append-drop cs t' in
      let front : CalledUnlessRefused (the_settings letters k m) t (call_of way file) answer (take cs t' ++ drop cs t) =
      rw c (by_classes way ps answer (take (class_count (the_settings letters k m)) t') e (rw c at T.counts)) in
      rw whole at front
