-- Document 01, "A record reader keeps the lent file with the offset reached": the record from an offset, all records of a file, what a reader
-- promises, and reading with one until none is given.
use Rattle.std.specs.Prelude.{◌≡◌, ℕ, zero, suc, ◌+◌, ◌-◌, Bool, cond, ◌&&◌, ◌||◌, List, [], ◌∷◌, map, length, get_or, eqb, ltb, Option, None, Some}
use Rattle.std.specs.List.{slice_get}
use Rattle.std.specs.Borrow.{Bor}
use Rattle.records.specs.declared.Record.{Record}
use Rattle.records.specs.declared.Reader.{Reader}

-- ---- a record

-- A record, "as two offsets with lengths": those of its header line, and those of what follows it.
abbrev pub Parts : Type 0
Parts = (ℕ × ℕ) × (ℕ × ℕ)

-- The record's end.
abbrev pub end_of : Parts → ℕ
end_of p = p.1.0 + p.1.1

-- The code's record in these terms, and its answer: a record, or none.
abbrev pub parts_of : Record → Parts
parts_of r = ((r.header, r.header_len), (r.body, r.body_len))

abbrev pub of_found : Option Record → Option Parts
of_found (Some r) = Some (parts_of r)
of_found None = None

-- ---- the record from an offset

-- Whether the byte at p is LF.
abbrev pub is_lf : List ℕ → ℕ → Bool
is_lf file p = eqb (get_or file p 0) 10

-- Whether a line of the file starts at p, at its start or after LF, and begins with >.
unfoldable pub is_header : List ℕ → ℕ → Bool
is_header file p = eqb (get_or file p 0) 62 && (eqb p 0 || is_lf file (p - 1))

-- The first of the n places from p that passes a test; p + n where none does.
unfoldable pub first_from : (test : ℕ → Bool) (p n : ℕ) → ℕ
first_from test p zero = p
first_from test p (suc n) = cond (test p) p (first_from test (suc p) n)

-- "from any offset the next header is the first line starting with > at or after it": its place; where there is none, the file's length,
-- or the offset itself where that is past the end.
abbrev pub header_at : List ℕ → ℕ → ℕ
header_at file at = first_from (is_header file) at (length file - at)

-- The LF that ends the line of the header at h; the file's length where the file's end cuts it off.
abbrev pub line_end : List ℕ → ℕ → ℕ
line_end file h = first_from (is_lf file) (h + 1) (length file - (h + 1))

-- The length of a header line without its end, the LF standing at e: a CR before the LF is part of the end.
abbrev pub header_length : List ℕ → ℕ → ℕ → ℕ
header_length file h e = cond (eqb (get_or file (e - 1) 0) 13) (e - 1 - h) (e - h)

-- The record whose header starts at h and whose header line's LF is at e, the file's length where it is cut off: "the header line without its
-- end, and all bytes from the next line to the next header or the file's end"; "A header that the file's end cuts off has a second part of
-- length 0 at the file's length."
unfoldable pub record_to : List ℕ → ℕ → ℕ → Parts
record_to file h e =
    cond (ltb e (length file))
    ((h, header_length file h e), (e + 1, header_at file (e + 1) - (e + 1)))
    ((h, length file - h), (length file, 0))

abbrev pub record_of : List ℕ → ℕ → Parts
record_of file h = record_to file h (line_end file h)

-- What the reader gives from an offset: the record of the next header; "past the file's end there is none".
unfoldable pub record_from : List ℕ → ℕ → Option Parts
record_from file at = cond (ltb (header_at file at) (length file)) (Some (record_of file (header_at file at))) None

-- "A record moves the offset to the record's end; none keeps it."
abbrev pub offset_after : ℕ → Option Parts → ℕ
offset_after at (Some p) = end_of p
offset_after at None = at

-- ---- all records

-- The headers among the n places from p, in file order.
unfoldable pub headers_from : List ℕ → ℕ → ℕ → List ℕ
headers_from file p zero = []
headers_from file p (suc n) = cond (is_header file p) (p ∷ headers_from file (suc p) n) (headers_from file (suc p) n)

-- The records of a file whose headers stand at an offset or after it, one a header, in file order.
abbrev pub records_from : List ℕ → ℕ → List Parts
records_from file at = map (record_of file) (headers_from file at (length file - at))

abbrev pub all_records : List ℕ → List Parts
all_records file = records_from file 0

-- The record with the number n, from 0; none where the file has no more.
abbrev pub record_number : List ℕ → ℕ → Option Parts
record_number file n = slice_get (all_records file) n

-- ---- a reader

-- What `Reader::new` promises: it "keeps the lent file" and "starts at offset 0".
abbrev pub Starts : Bor (List ℕ) → Reader → Type 0
Starts file r = (r.file ≡ file) × (r.at ≡ 0)

-- What `Reader::next` promises of its answer: the record from the offset reached, or none.
abbrev pub Gives : Reader → Option Parts → Type 0
Gives r answer = answer ≡ record_from r.file.now r.at

-- What `Reader::next` promises of the reader: the same file, and the offset moved or kept.
abbrev pub Moves : Reader → Reader → Type 0
Moves r moved = (moved.file ≡ r.file) × (moved.at ≡ offset_after r.at (record_from r.file.now r.at))

-- Reading with a reader until none is given: what `next` gives, in order, each time of the reader that it moved before.
pub data Reads : Reader → List Parts → Type 0 where
  ended : {r : Reader} → Gives r None → Reads r []
  given : {r moved : Reader} {p : Parts} {rest : List Parts} → Gives r (Some p) → Moves r moved → Reads moved rest → Reads r (p ∷ rest)
