-- The scan of a FASTQ file, from `clean_items`; and the grounds of a scan one after the other, as `scan` meets them: what the settings' check answers, then
-- the file's length, then its first fault. And that what a scan takes in adds up.
use Rattle.std.proofs.Common.{◌≡◌, sym, ℕ, ◌+◌, ◌<◌, ◌≤◌, false, None, List, length, lt-ltb, le-ltb}
use Rattle.lines.specs.Lines.{lines}
use Rattle.settings.specs.Grounds.{Ground, Outcome, given, refused, outcome}
use Rattle.settings.specs.declared.Checked.{Checked}
use Rattle.settings.specs.Settings.{rank_in, settings_ground, settings_of}
use Rattle.settings.specs.RankTables.{rank_by_table, RanksOf}
use Rattle.settings.specs.declared.RankTable.{RankTable}
use Rattle.settings.proofs.Outcomes.{refused_on, passed, first_none}
use Rattle.settings.proofs.SettingsGrounds.{good_settings}
use Rattle.fasta.specs.declared.Mode.TheVariants.{FastqStart}
use Rattle.fasta.specs.declared.Numbers.{Numbers}
use Rattle.fasta.specs.File.{items_from, fault_from}
use Rattle.fasta.proofs.Ranks.{numbers_by_table}
use Rattle.fasta.proofs.Runs.{letters_are}
use Rattle.fastq.specs.Fastq.{fastq_fault}
use Rattle.fastq.proofs.OnlySequence.{clean_items}
use Rattle.files.specs.File.{File, start_of, items, file_fault, file_numbers}
use Rattle.settings.specs.Limits.{too_long}
use Rattle.files.specs.Scan.{scan_ground}
use Rattle.settings.specs.Given.{the_settings}

-- ---- FASTQ

-- A file to which no ground of FASTQ applies is taken in by the scan of its items.
pub scan_clean : (f : List ℕ) (n : Numbers) → None ≡ fastq_fault 0 (lines f)
    → outcome (fault_from false 0 (items_from FastqStart f)) n ≡ outcome (fastq_fault 0 (lines f)) n
scan_clean f n e = rw (clean_items f (sym e), sym e)

-- ---- both kinds

-- Where the settings' check answers settings, so that no ground of theirs applies.
module _ (letters : List ℕ) (k mirror : ℕ) {st : Checked} (checked : given st ≡ outcome (settings_ground (the_settings letters k mirror)) (settings_of (the_settings letters k mirror))) where
  none_applies : settings_ground (the_settings letters k mirror) ≡ None
  none_applies = (passed (settings_of (the_settings letters k mirror)) (settings_ground (the_settings letters k mirror)) checked).none_applies_lem

  pub few_letters : length letters ≤ 16
  few_letters = (good_settings letters k mirror none_applies).few

  pub some_k : 1 ≤ k
  some_k = (good_settings letters k mirror none_applies).some_k

module _ (letters : List ℕ) (k mirror : ℕ) (file : File) where
  abbrev answer : Outcome Numbers
  answer = outcome (scan_ground (the_settings letters k mirror) file) (file_numbers (rank_in letters) k file)

  -- A refusal of the settings is the answer, whatever the file is.
  pub bad_settings : (f : Ground) → refused f ≡ outcome (settings_ground (the_settings letters k mirror)) (settings_of (the_settings letters k mirror)) → refused f ≡ answer
  unfolding scan_ground
  bad_settings f e = refused_on f (settings_of (the_settings letters k mirror)) (file_numbers (rank_in letters) k file) (settings_ground (the_settings letters k mirror)) _ e

  module _ {st : Checked} (checked : given st ≡ outcome (settings_ground (the_settings letters k mirror)) (settings_of (the_settings letters k mirror))) where
    pub long_file : 16777216 < length file.bytes → refused (6, 0) ≡ answer
    unfolding scan_ground too_long
    long_file h = rw (none_applies letters k mirror checked, lt-ltb 16777216 (length file.bytes) h)

    -- Past the length it is the file's first fault, or its numbers by a table of ranks.
    pub scanned : (table : RankTable) → RanksOf letters table → length file.bytes ≤ 16777216
        → outcome (file_fault file) (file_numbers (rank_by_table table) k file) ≡ answer
    unfolding scan_ground too_long
    scanned table t h =
        rw (
          none_applies letters k mirror checked,
          le-ltb 16777216 (length file.bytes) h,
          numbers_by_table letters table t k (start_of file.kind) file.bytes,
        )

-- What a scan takes in adds up: letters = windows + foreign + edge, for every answer that is no refusal.
pub taken_adds : (letters : List ℕ) (k mirror : ℕ) (file : File) (n : Numbers)
    → given n ≡ outcome (scan_ground (the_settings letters k mirror) file) (file_numbers (rank_in letters) k file)
    → n.letters ≡ n.windows + n.foreign + n.edge
unfolding scan_ground
taken_adds letters k mirror file n e =
    let p = passed (file_numbers (rank_in letters) k file) (scan_ground (the_settings letters k mirror) file) e in
    let h = (good_settings letters k mirror (first_none (settings_ground (the_settings letters k mirror)) _ p.none_applies_lem)).some_k in
    rw p.value (letters_are (rank_in letters) k (items file) h)
