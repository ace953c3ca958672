-- Document 01, "Sequence file (FASTA)", and document 02, K1: what each byte of a sequence file is, by the place in its line; and the first fault of
-- FASTA. What is cut from a file once this is known is in Items; the grounds of FASTQ are in the crate fastq, and a file with its kind in the crate files.
use Rattle.std.specs.Prelude.{ℕ, suc, Bool, true, ◌&&◌, ◌||◌, cond, List, [], ◌∷◌, leb, eqb, Option, None, Some}
use Rattle.settings.specs.Grounds.{Ground}
use Rattle.lines.specs.Lines.{is_line_end}
unfoldable pub use Rattle.lines.specs.Lines.{lf_next}
use Rattle.fasta.specs.declared.Mode.{Mode}
use Rattle.fasta.specs.declared.Mode.TheVariants.{Start, Header, Sequence, FastqStart, FastqHeader, FastqSequence, FastqPlus, FastqQuality}
use Rattle.fasta.specs.declared.Item.{Item}
use Rattle.fasta.specs.declared.Item.TheVariants.{Opens, Skip, Stray, Letter}

-- "A to Z and a to z are letters"
unfoldable pub is_letter : ℕ → Bool
is_letter b = (leb 65 b && leb b 90) || (leb 97 b && leb b 122)

-- A byte of a sequence line. "Lines end in LF or CR LF": LF and a CR before LF are skipped; "A to Z and a to z are letters, all others
-- stray, a > after the line's start and a CR without LF included."
unfoldable pub line_item : ℕ → Bool → Item
line_item b lf = cond (is_line_end b lf) Skip (cond (is_letter b) (Letter b) Stray)

-- FASTA: "A line beginning with > opens a record and its other bytes are free." FASTQ: "four lines a record, @ header, sequence on one line, + line,
-- and quality"; "Only the sequence counts": the header line's first byte opens the record, whatever it is (where it is no @, 15 refuses the file), and all
-- other bytes of header, + and quality lines count for nothing; what may stand in them is said in the crate fastq.
unfoldable pub item : Mode → ℕ → Bool → Item
item Start b lf = cond (eqb b 62) Opens (line_item b lf)
item Header b lf = Skip
item Sequence b lf = line_item b lf
item FastqStart b lf = Opens
item FastqHeader b lf = Skip
item FastqSequence b lf = line_item b lf
item FastqPlus b lf = Skip
item FastqQuality b lf = Skip

-- Where the byte after b stands: a line starts after each LF. In FASTQ the lines of a record follow each other, header, sequence, + and quality, and then
-- comes the next record.
unfoldable pub next : Mode → ℕ → Mode
next Start b = cond (eqb b 10) Start (cond (eqb b 62) Header Sequence)
next Header b = cond (eqb b 10) Start Header
next Sequence b = cond (eqb b 10) Start Sequence
next FastqStart b = cond (eqb b 10) FastqSequence FastqHeader
next FastqHeader b = cond (eqb b 10) FastqSequence FastqHeader
next FastqSequence b = cond (eqb b 10) FastqPlus FastqSequence
next FastqPlus b = cond (eqb b 10) FastqQuality FastqPlus
next FastqQuality b = cond (eqb b 10) FastqStart FastqQuality

-- What each of some bytes is, one item a byte; the mode is the place of the first, Start in a FASTA file and FastqStart in a FASTQ file.
unfoldable pub items_from : Mode → List ℕ → List Item
items_from m [] = []
items_from m (b ∷ bs) = item m b (lf_next bs) ∷ items_from (next m b) bs

-- Grounds 10 and 11: "stray byte; P its offset", "letter before the first header; P its offset"; "the earlier byte wins". `opened` says
-- that a header came before, `at` is the offset of the first item.
unfoldable pub fault_from : Bool → ℕ → List Item → Option Ground
fault_from opened at [] = None
fault_from opened at (Opens ∷ is) = fault_from true (suc at) is
fault_from opened at (Skip ∷ is) = fault_from opened (suc at) is
fault_from opened at (Stray ∷ is) = Some (10, at)
fault_from opened at (Letter b ∷ is) = cond opened (fault_from opened (suc at) is) (Some (11, at))
