-- The definitions, computed on files of a few bytes: which records the reader gives and where it moves, by the sentences of document 01. By computation.
use Rattle.std.proofs.Common.{◌≡◌, refl, None, Some, [], ◌∷◌}
use Rattle.laws.specs.Text.{bytes}
use Rattle.records.specs.Records.{is_header, first_from, record_to, record_from, offset_after, headers_from, all_records, record_number}

-- "the header line without its end, and all bytes from the next line to the next header or the file's end"; what comes before is in no record.
records : all_records (bytes "A\n>a\nAC\n>b\r\nG*\r\n>c\n") ≡ ((2, 2), (5, 3)) ∷ ((8, 2), (12, 4)) ∷ ((16, 2), (19, 0)) ∷ []
unfolding is_header first_from record_to record_from headers_from
records = refl

-- Numbers of records are from 0.
last_record : record_number (bytes "A\n>a\nAC\n>b\r\nG*\r\n>c\n") 2 ≡ Some ((16, 2), (19, 0))
unfolding is_header first_from record_to record_from headers_from
last_record = refl

past_last_record : record_number (bytes "A\n>a\nAC\n>b\r\nG*\r\n>c\n") 3 ≡ None
unfolding is_header first_from record_to record_from headers_from
past_last_record = refl

-- "from any offset the next header is the first line starting with > at or after it": from the middle of a line, and not a > inside a line.
from_middle : record_from (bytes ">a\nA\n>b\nC") 1 ≡ Some ((5, 2), (8, 1))
unfolding is_header first_from record_to record_from headers_from
from_middle = refl

not_inside : record_from (bytes ">a>b\nC") 2 ≡ None
unfolding is_header first_from record_to record_from headers_from
not_inside = refl

-- "A header that the file's end cuts off has a second part of length 0 at the file's length": a CR with no LF is part of it.
cut_off : record_from (bytes ">a\n>b\r") 1 ≡ Some ((3, 3), (6, 0))
unfolding is_header first_from record_to record_from headers_from
cut_off = refl

-- "past the file's end there is none"
past_end : record_from (bytes ">a\nA\n") 7 ≡ None
unfolding is_header first_from record_to record_from headers_from
past_end = refl

-- "A record moves the offset to the record's end; none keeps it": here the end is the next header.
moves_the_offset : offset_after 0 (record_from (bytes ">a\nA\n>b\nC") 0) ≡ 5
unfolding is_header first_from record_to record_from headers_from
moves_the_offset = refl

keeps_the_offset : offset_after 7 (record_from (bytes ">a\nA\n") 7) ≡ 7
unfolding is_header first_from record_to record_from headers_from
keeps_the_offset = refl

-- No header at all, and an empty file.
no_records : all_records (bytes "AC\nA>\n") ≡ []
unfolding is_header first_from record_to record_from headers_from
no_records = refl

no_bytes : all_records [] ≡ []
unfolding is_header first_from record_to record_from headers_from
no_bytes = refl
