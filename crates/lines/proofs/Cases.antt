-- The definitions, computed on texts of a few bytes. By computation.
use Rattle.std.proofs.Common.{◌≡◌, refl, [], ◌∷◌}
use Rattle.laws.specs.Text.{bytes}
use Rattle.lines.specs.Lines.{lf_next, on_first, lines, text_of}

-- "a stretch with neither bytes nor a line end is no line": an empty text has no line, and nothing stands behind the last line end.
no_line : (lines [] ≡ []) × (lines (bytes "a\n") ≡ bytes "a\n" ∷ []) × (lines (bytes "\n") ≡ bytes "\n" ∷ [])
unfolding lines on_first
no_line = (refl, refl, refl)

-- "Lines end in LF or CR LF; the last may have no end"; "No line is skipped": an empty one neither.
line_ends : lines (bytes "a\r\n\n\nbc") ≡ bytes "a\r\n" ∷ bytes "\n" ∷ bytes "\n" ∷ bytes "bc" ∷ []
unfolding lines on_first
line_ends = refl

-- A line's text is without its end; a CR without LF is a byte of it, at the text's end too.
texts : (text_of (bytes "a\n") ≡ bytes "a") × (text_of (bytes "a\r\n") ≡ bytes "a") × (text_of (bytes "a\rb\r\r\n") ≡ bytes "a\rb\r")
    × (text_of (bytes "a\r") ≡ bytes "a\r") × (text_of (bytes "\r\n") ≡ [])
unfolding text_of lf_next
texts = (refl, refl, refl, refl, refl)
