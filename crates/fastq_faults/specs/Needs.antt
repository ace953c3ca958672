-- What functions below the calls ask of each other; no sentence of the documents rests on it.
use Rattle.std.specs.Prelude.{◌≡◌, List, ℕ, ◌+◌, ◌<◌, length, drop, eqb, Option}
use Rattle.lines.specs.Needs.{first_line}
use Rattle.settings.specs.Grounds.{Ground, ground_at, ◌or_else◌}
use Rattle.fasta.specs.File.{is_letter}
use Rattle.fastq.specs.Fastq.{unless_at, first_failing, is_quality, record_fault}

-- Grounds 16 and 17 of a quality text at an offset, for a sequence text of n bytes.
unfoldable pub quality_ground : (n at : ℕ) → List ℕ → Option Ground
quality_ground n at text = ground_at 16 (unless_at (eqb (length text) n) at) or_else ground_at 17 (first_failing is_quality at text)

-- Ground 10 of a sequence text at an offset, then 16 and 17 of a quality text at another.
unfoldable pub text_ground : ℕ → List ℕ → ℕ → List ℕ → Option Ground
text_ground from sequence at quality = ground_at 10 (first_failing is_letter from sequence) or_else quality_ground (length sequence) at quality

-- The line that starts at a place; [] behind the file's end.
abbrev pub line_at : (file : List ℕ) (at : ℕ) → List ℕ
line_at file at = first_line (drop at file)

-- The places of a record's four lines, of which the first is there, and the place behind them.
pub record LinesAt (file : List ℕ) (header sequence plus quality after : ℕ) : Type 0 where
  pub there : header < length file
  pub second : sequence ≡ header + length (line_at file header)
  pub third : plus ≡ sequence + length (line_at file sequence)
  pub fourth : quality ≡ plus + length (line_at file plus)
  pub behind : after ≡ quality + length (line_at file quality)

-- The first ground that applies to the record whose lines start at some places.
abbrev pub record_at : (file : List ℕ) (header sequence plus quality : ℕ) → Option Ground
record_at file header sequence plus quality =
    record_fault header (line_at file header) (line_at file sequence) (line_at file plus) (line_at file quality)
