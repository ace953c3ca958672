-- Computed checks of the line that we print, and of the reading's definition: lines with their answers, lines in another order, and inputs that start with no
-- survey line, by the rule that they keep or break.
use Rattle.std.proofs.Common.{◌≡◌, refl, List, [], ◌∷◌, ◌++◌, ℕ}
use Prim.Native.String.{String}
use Rattle.laws.specs.Text.{bytes}
use Rattle.settings.specs.Grounds.{Outcome, given, refused}
use Rattle.settings.specs.Settings.{is_in, is_odd, half_up, classes}
use Rattle.texts.specs.Decimals.{decimal_from, decimal}
use Rattle.survey.specs.Line.{survey_line}
use Rattle.survey.specs.Grammar.{spelt}
use Rattle.survey.specs.Claims.{InputParts, input_parts}
use Rattle.survey.specs.Reading.{starts_with, stretch, value_byte, sized, mirror_number, number_of, form_of, form_from, form_at, next_form, end_after, line_end, in_order, each_once, by_order, head_of, line_from, read_line, read_input}
use Rattle.settings.specs.Given.{the_settings}

-- ---- lines that we print

-- The worked example's, "`(classes 10)` in the document 01 case" (document 02, K6); an odd alphabet under complement; a number of several digits; as
-- many classes as words.
printed :
    (survey_line (the_settings (bytes "ACGT") 2 1) ≡ bytes "(survey (letters ACGT) (k 2) (mirror complement) (classes 10))\n")
    × (survey_line (the_settings (bytes "ABC") 1 1) ≡ bytes "(survey (letters ABC) (k 1) (mirror complement) (classes 2))\n")
    × (survey_line (the_settings (bytes "ACGT") 8 1) ≡ bytes "(survey (letters ACGT) (k 8) (mirror complement) (classes 32896))\n")
    × (survey_line (the_settings (bytes "AB") 1 0) ≡ bytes "(survey (letters AB) (k 1) (mirror reversal) (classes 2))\n")
unfolding survey_line decimal decimal_from classes is_odd half_up
printed = (refl, refl, refl, refl)

-- ---- lines that are read

-- What an input is read as. A case that unfolds it computes with all that its `unfolding` line names.
unfoldable reading : List ℕ → Outcome InputParts
unfolding read_input read_line line_from head_of by_order in_order each_once line_end end_after next_form form_at form_from form_of number_of mirror_number
    sized value_byte is_in stretch starts_with spelt
reading input = read_input input

-- The line is read as these letters, this k and this mirror, and the file is what follows it.
abbrev Reads : (line letters : String) (k mirror : ℕ) (file : String) → Type 0
Reads line letters k mirror file = reading (bytes line) ≡ given (input_parts (bytes letters) k mirror (bytes file))

abbrev ToldAsOther : String → Type 0
ToldAsOther line = reading (bytes line) ≡ refused (19, 0)

abbrev Refused : String → Type 0
Refused line = reading (bytes line) ≡ refused (13, 0)

-- ---- survey lines

-- The worked example's line.
in_order_lem : Reads "(survey (letters ACGT) (k 2) (mirror complement))\n>a" "ACGT" 2 1 ">a"
unfolding reading
in_order_lem = refl

-- "ends in LF, CR LF or with the input"
line_ends :
    Reads "(survey (letters AB) (k 7) (mirror reversal))\n" "AB" 7 0 ""
    × Reads "(survey (letters AB) (k 7) (mirror reversal))\r\n>a" "AB" 7 0 ">a"
    × Reads "(survey (letters AB) (k 7) (mirror reversal))" "AB" 7 0 ""
unfolding reading
line_ends = (refl, refl, refl)

-- Whether k, the letters and the mirror are good settings is judged later: "`reversal` is 0, `complement` 1, others give 2".
values :
    Reads "(survey (letters AB) (k 0) (mirror reversal))\n" "AB" 0 0 ""
    × Reads "(survey (letters AB) (k 999) (mirror reversal))\n" "AB" 999 0 ""
    × Reads "(survey (letters acgt) (k 10) (mirror foo))\n" "acgt" 10 2 ""
    × Reads "(survey (letters A-Z>\"{}) (k 7) (mirror reversals))\n" "A-Z>\"{}" 7 2 ""
    × Reads "(survey (letters A) (k 7) (mirror complemen))\n" "A" 7 2 ""
unfolding reading
values = (refl, refl, refl, refl, refl)

-- Bytes above 127 are letters too.
high_bytes : reading (bytes "(survey (letters A" ++ (128 ∷ 255 ∷ bytes ") (k 7) (mirror reversal))\n")) ≡ given (input_parts (65 ∷ 128 ∷ 255 ∷ []) 7 0 [])
unfolding reading
high_bytes = refl

-- ---- lines in another order

-- The five other orders, with each end of a line.
another_order :
    ToldAsOther "(survey (letters ACGT) (mirror complement) (k 2))\n>a"
    × ToldAsOther "(survey (k 2) (letters ACGT) (mirror complement))\n>a"
    × ToldAsOther "(survey (k 2) (mirror complement) (letters ACGT))\r\n>a"
    × ToldAsOther "(survey (mirror complement) (letters ACGT) (k 2))"
    × ToldAsOther "(survey (mirror complement) (k 2) (letters ACGT))\n"
unfolding reading
another_order = (refl, refl, refl, refl, refl)

-- "well formed" is a matter of shape: k 0, k 999, letters that are no capitals and any mirror's name are.
shapes :
    ToldAsOther "(survey (k 0) (letters AB) (mirror reversal))\n"
    × ToldAsOther "(survey (k 999) (letters AB) (mirror reversal))\n"
    × ToldAsOther "(survey (mirror foo) (k 2) (letters AB))\n"
    × ToldAsOther "(survey (letters a-a) (mirror foo) (k 0))\n"
unfolding reading
shapes = (refl, refl, refl, refl)

-- What makes a line no survey line makes it no line in another order either: a value that is not well formed, a form that is missing or there twice, a fourth
-- form, two spaces, no end.
neither :
    Refused "(survey (k 01) (letters AB) (mirror reversal))\n"
    × Refused "(survey (mirror Foo) (letters AB) (k 7))\n"
    × Refused "(survey (k 7) (letters ) (mirror reversal))\n"
    × Refused "(survey (k 7) (letters AB))\n"
    × Refused "(survey (k 7) (letters AB) (k 7))\n"
    × Refused "(survey (mirror reversal) (letters AB) (letters AB))\n"
    × Refused "(survey (k 7) (letters AB) (mirror reversal) (k 7))\n"
    × Refused "(survey (k 7) (letters AB)  (mirror reversal))\n"
    × Refused "(survey (k 7) (letters AB) (mirror reversal))\r>a\n"
    × Refused "(survey (k 7) (letters AB) (mirror reversal)"
unfolding reading
neither = (refl, refl, refl, refl, refl, refl, refl, refl, refl, refl)

-- ---- no survey lines

-- No survey line, or something before it.
no_line :
    Refused ""
    × Refused ">a\nACGT\n"
    × Refused "(survey"
    × Refused " (survey (letters AB) (k 7) (mirror reversal))\n"
    × Refused "(Survey (letters AB) (k 7) (mirror reversal))\n"
unfolding reading
no_line = (refl, refl, refl, refl, refl)

-- "Forms are parted by one space."
parted :
    Refused "(survey (letters AB)  (k 7) (mirror reversal))\n"
    × Refused "(survey (letters AB)(k 7) (mirror reversal))\n"
    × Refused "(survey (letters AB)\t(k 7) (mirror reversal))\n"
    × Refused "(survey  (letters AB) (k 7) (mirror reversal))\n"
unfolding reading
parted = (refl, refl, refl, refl)

-- "its three inner forms .. each once"
each_once_lem :
    Refused "(survey (k 7) (mirror reversal))\n"
    × Refused "(survey (letters AB) (mirror reversal))\n"
    × Refused "(survey (letters AB) (k 7))\n"
    × Refused "(survey (letters AB) (k 7) (k 7))\n"
    × Refused "(survey (letters AB) (letters AB) (mirror reversal))\n"
    × Refused "(survey (letters AB) (k 7) (mirror reversal) (k 7))\n"
unfolding reading
each_once_lem = (refl, refl, refl, refl, refl, refl)

-- "The line that the program reads has no such form" (document 02, K6): with the right number or a wrong one, last or at another place, after the other forms
-- in order or not.
no_classes :
    Refused "(survey (letters ACGT) (k 2) (mirror complement) (classes 10))\n"
    × Refused "(survey (letters ACGT) (k 2) (mirror complement) (classes 11))"
    × Refused "(survey (classes 10) (letters ACGT) (k 2) (mirror complement))\n"
    × Refused "(survey (letters ACGT) (k 2) (classes 10))\n"
    × Refused "(survey (k 2) (letters ACGT) (mirror complement) (classes 10))\r\n"
unfolding reading
no_classes = (refl, refl, refl, refl, refl)

-- "k is 1 to 3 digits with no leading zero except 0 itself"
k_digits :
    Refused "(survey (letters AB) (k 01) (mirror reversal))\n"
    × Refused "(survey (letters AB) (k 00) (mirror reversal))\n"
    × Refused "(survey (letters AB) (k 1000) (mirror reversal))\n"
    × Refused "(survey (letters AB) (k ) (mirror reversal))\n"
    × Refused "(survey (letters AB) (k -1) (mirror reversal))\n"
unfolding reading
k_digits = (refl, refl, refl, refl, refl)

-- "The mirror is one or more small letters"
mirror-letters :
    Refused "(survey (letters AB) (k 7) (mirror Reversal))\n"
    × Refused "(survey (letters AB) (k 7) (mirror ))\n"
unfolding reading
mirror-letters = (refl, refl)

-- "letters are one or more bytes other than brackets, spaces, CR and LF"
letter_bytes :
    Refused "(survey (letters ) (k 7) (mirror reversal))\n"
    × Refused "(survey (letters A(B) (k 7) (mirror reversal))\n"
    × Refused "(survey (letters A)B) (k 7) (mirror reversal))\n"
    × Refused "(survey (letters A B) (k 7) (mirror reversal))\n"
    × Refused "(survey (letters A\rB) (k 7) (mirror reversal))\n"
    × Refused "(survey (letters A\nB) (k 7) (mirror reversal))\n"
unfolding reading
letter_bytes = (refl, refl, refl, refl, refl, refl)

-- "ends in LF, CR LF or with the input": not in a CR, nor after anything else.
no_end :
    Refused "(survey (letters AB) (k 7) (mirror reversal)) \n"
    × Refused "(survey (letters AB) (k 7) (mirror reversal) )\n"
    × Refused "(survey (letters AB) (k 7) (mirror reversal)\n"
    × Refused "(survey (letters AB) (k 7) (mirror rever"
    × Refused "(survey (letters AB) (k 7) (mirror reversal))\r"
    × Refused "(survey (letters AB) (k 7) (mirror reversal))\r>a\n"
    × Refused "(survey (letters AB) (k 7) (mirror reversal))>a\n"
unfolding reading
no_end = (refl, refl, refl, refl, refl, refl, refl)
