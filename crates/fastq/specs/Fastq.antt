-- Document 02, K1: the first ground for refusing a FASTQ file, from its lines, each with its end: "four lines a record, @ header, sequence on one line,
-- + line, and quality of the same length". What its letters, windows and numbers are is defined for both kinds of file alike, in fasta.
use Rattle.std.specs.Prelude.{ℕ, suc, ◌+◌, Bool, true, false, cond, ◌&&◌, List, [], ◌∷◌, ◌++◌, map, length, eqb, leb, Option, None, Some}
use Rattle.lines.specs.Lines.{text_of, first_byte_is}
use Rattle.settings.specs.Grounds.{Ground, ground_at, ◌or_else◌}
use Rattle.fasta.specs.declared.Item.{Item}
use Rattle.fasta.specs.declared.Item.TheVariants.{Opens, Letter}
use Rattle.fasta.specs.File.{is_letter}

-- Whether a line is there: a line that the file lacks is [], and no line of a file is empty.
unfoldable pub is_there : List ℕ → Bool
is_there [] = false
is_there (b ∷ bs) = true

-- p, unless a test holds.
unfoldable pub unless_at : Bool → ℕ → Option ℕ
unless_at true p = None
unless_at false p = Some p

-- The offset of the first byte that fails a test, of bytes whose first is at an offset.
unfoldable pub first_failing : (ℕ → Bool) → (at : ℕ) → List ℕ → Option ℕ
first_failing test at [] = None
first_failing test at (b ∷ bs) = cond (test b) (first_failing test (suc at) bs) (Some at)

-- 17: "a quality byte is outside 33 to 126"
unfoldable pub is_quality : ℕ → Bool
is_quality b = leb 33 b && leb b 126

-- The first ground that applies to a record, whose header line starts at an offset: "within it the order is 15, 10, 16, 17". 15 "when a first line lacks @,
-- a third lacks +, or the file ends before a fourth line" (@ is 64, + is 43), the first of these; 10, a stray byte of the sequence line; 16 "when a quality line's
-- length differs"; 17. "P is the offset of the line (for a missing line the file's length, for 10 and 17 that of the byte)": a line that the file lacks, [], would
-- start at the file's end, and a missing second line is met where the third is.
unfoldable pub record_fault : (at : ℕ) (header sequence plus quality : List ℕ) → Option Ground
record_fault at h s p q =
    let second = at + length h in
    let third = second + length s in
    let fourth = third + length p in
    ground_at 15 (unless_at (first_byte_is 64 h) at)
    or_else ground_at 15 (unless_at (first_byte_is 43 p) third)
    or_else ground_at 15 (unless_at (is_there q) fourth)
    or_else ground_at 10 (first_failing is_letter second (text_of s))
    or_else ground_at 16 (unless_at (eqb (length (text_of q)) (length (text_of s))) fourth)
    or_else ground_at 17 (first_failing is_quality fourth (text_of q))

-- "the earliest record at fault wins": of some lines, of which the first starts at an offset. A file is refused by `fastq_fault 0 (lines file)`.
unfoldable pub fastq_fault : (at : ℕ) → (ls : List (List ℕ)) → Option Ground
fastq_fault at [] = None
fastq_fault at (h ∷ []) = record_fault at h [] [] []
fastq_fault at (h ∷ s ∷ []) = record_fault at h s [] []
fastq_fault at (h ∷ s ∷ p ∷ []) = record_fault at h s p []
fastq_fault at (h ∷ s ∷ p ∷ q ∷ ls) = record_fault at h s p q or_else fastq_fault (at + length h + length s + length p + length q) ls

-- "Only the sequence counts": the items that count in some lines, four a record. Each record opens, and then come the bytes of its sequence line's text, as
-- letters. Theorems say that a file's windows and numbers are those of these items, where no ground applies (proofs/OnlySequence.antt).
unfoldable pub sequence_items : (ls : List (List ℕ)) → List Item
sequence_items [] = []
sequence_items (h ∷ []) = []
sequence_items (h ∷ s ∷ []) = []
sequence_items (h ∷ s ∷ p ∷ []) = []
sequence_items (h ∷ s ∷ p ∷ q ∷ ls) = Opens ∷ (map Letter (text_of s) ++ sequence_items ls)
