-- The definitions, computed on files of a few bytes: the sentences of K1 on the grounds of a FASTQ file and their P. By computation.
use Rattle.std.proofs.Common.{◌≡◌, refl, Option, None, Some, List, [], ℕ}
use Rattle.laws.specs.Text.{bytes}
use Rattle.lines.specs.Lines.{lf_next, on_first, lines, text_of, first_byte_is}
use Rattle.settings.specs.Grounds.{Ground}
use Rattle.fasta.specs.File.{is_letter}
use Rattle.fastq.specs.Fastq.{is_there, unless_at, first_failing, is_quality, record_fault, fastq_fault}

-- A case that unfolds this computes with all that its `unfolding` line names.
unfoldable fault : List ℕ → Option Ground
unfolding lf_next on_first lines text_of first_byte_is is_letter is_there unless_at first_failing is_quality record_fault fastq_fault
fault file = fastq_fault 0 (lines file)

-- "four lines a record": whole files, of no record, with LF and with CR LF, the last line without end, a record of no letters; "quality of the same length"
-- may hold any byte of 33 to 126, an @ or a + at its start too.
whole : (fault [] ≡ None) × (fault (bytes "@a\nACGT\n+\nIIII\n") ≡ None) × (fault (bytes "@a\r\nAC\r\n+\r\nII") ≡ None)
    × (fault (bytes "@\n\n+\n\n") ≡ None) × (fault (bytes "@a\nAC\n+a\n@!\n@b\nN\n+\n+") ≡ None) × (fault (bytes "@\nA\n+\n~\n") ≡ None)
unfolding fault
whole = (refl, refl, refl, refl, refl, refl)

-- "15 when .. the file ends before a fourth line", after each of its lines: "for a missing line the file's length". A line that is there may be empty, if it
-- has its end.
cut_off : (fault (bytes "@a") ≡ Some (15, 2)) × (fault (bytes "@a\nAC") ≡ Some (15, 5)) × (fault (bytes "@a\nAC\n") ≡ Some (15, 6))
    × (fault (bytes "@a\nAC\n+") ≡ Some (15, 7)) × (fault (bytes "@a\n\n+\n") ≡ Some (15, 6))
unfolding fault
cut_off = (refl, refl, refl, refl, refl)

-- "15 when a first line lacks @, a third lacks +": "P is the offset of the line". "No line is skipped": an empty line between records, or behind the last,
-- is a first line.
lacking : (fault (bytes "a\nAC\n+\nII\n") ≡ Some (15, 0)) × (fault (bytes "@a\nAC\nGT\n+\nIIII\n") ≡ Some (15, 6))
    × (fault (bytes "@a\nAC\n+\nII\n\n") ≡ Some (15, 11)) × (fault (bytes "@a\nAC\n+\nII\n\n@b\nA\n+\nI\n") ≡ Some (15, 11))
unfolding fault
lacking = (refl, refl, refl, refl)

-- 10, 16 and 17, each with its P; a CR without LF is a byte of its line, at the file's end too.
others : (fault (bytes "@a\nA-C\n+\nII\n") ≡ Some (10, 4)) × (fault (bytes "@a\nA\rC\n+\nIII\n") ≡ Some (10, 4))
    × (fault (bytes "@a\nAC\n+\nI\n") ≡ Some (16, 8)) × (fault (bytes "@a\nAC\n+\nII\r") ≡ Some (16, 8))
    × (fault (bytes "@a\nAC\n+\nI \n") ≡ Some (17, 9)) × (fault (bytes "@a\nAC\n+\nI\r") ≡ Some (17, 9)) × (fault (bytes "@\nA\n+\n\u{7f}\n") ≡ Some (17, 6))
unfolding fault
others = (refl, refl, refl, refl, refl, refl, refl)

-- "the earliest record at fault wins, within it the order is 15, 10, 16, 17".
order : (fault (bytes "@a\nA-\nII\nII\n") ≡ Some (15, 6)) × (fault (bytes "@a\nA-\n+\n") ≡ Some (15, 8)) × (fault (bytes "@a\nA-\n+\nI\n") ≡ Some (10, 4))
    × (fault (bytes "@a\nAC\n+\n \n") ≡ Some (16, 8)) × (fault (bytes "@a\nAC\n+\nI \nb\nC\n+\nI\n") ≡ Some (17, 9))
    × (fault (bytes "a\nAC\nII\nII\n") ≡ Some (15, 0))
unfolding fault
order = (refl, refl, refl, refl, refl, refl)
