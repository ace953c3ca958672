-- The lines of a text: document 01, "Sequence file (FASTA)": "Lines end in LF or CR LF; the last may have no end", and document 02, K1: "No line is
-- skipped, and a stretch with neither bytes nor a line end is no line."
use Rattle.std.specs.Prelude.{ℕ, Bool, false, cond, ◌&&◌, ◌||◌, List, [], ◌∷◌, eqb}

-- Whether the bytes that follow begin with LF.
unfoldable pub lf_next : List ℕ → Bool
lf_next [] = false
lf_next (b ∷ bs) = eqb b 10

-- One number more at the front of the first list, and in a list of its own where there is none.
unfoldable pub on_first : ℕ → List (List ℕ) → List (List ℕ)
on_first x [] = (x ∷ []) ∷ []
on_first x (r ∷ rs) = (x ∷ r) ∷ rs

-- The lines of a text, each with its end: a line goes up to an LF, which is its last byte, or to the text's end. An empty text has none, and no line
-- is empty.
unfoldable pub lines : List ℕ → List (List ℕ)
lines [] = []
lines (b ∷ bs) = cond (eqb b 10) ((b ∷ []) ∷ lines bs) (on_first b (lines bs))

-- "Lines end in LF or CR LF": whether a byte, behind which LF stands or not, is LF, or a CR before LF.
abbrev pub is_line_end : ℕ → Bool → Bool
is_line_end b lf = eqb b 10 || (eqb b 13 && lf)

-- The text of a line: its bytes without its end. A CR without LF is a byte of the text.
unfoldable pub text_of : List ℕ → List ℕ
text_of [] = []
text_of (b ∷ bs) = cond (is_line_end b (lf_next bs)) [] (b ∷ text_of bs)

-- Whether the first of some bytes is c; where there is none, as in a line that is missing, it is not.
unfoldable pub first_byte_is : ℕ → List ℕ → Bool
first_byte_is c [] = false
first_byte_is c (b ∷ bs) = eqb b c
