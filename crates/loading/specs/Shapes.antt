-- Document 02, K7: the shapes of a listing's lines. A line l has its LF, if there is one. It is compared as a whole with the shape that its parts make; what is not the shape of
-- a survey line, of the line of a class or of a total "is none of the shapes".
use Rattle.std.specs.Prelude.{ℕ, ◌+◌, ◌-◌, Bool, true, false, not, ◌&&◌, ◌||◌, List, [], ◌∷◌, ◌++◌, length, take, drop, leb, eqb, Option, None, Some}
use Rattle.std.specs.List.{list_all}
use Rattle.laws.specs.Text.{bytes}
use Rattle.settings.specs.Settings.{is_in}
use Rattle.survey.specs.declared.Form.{Form}
use Rattle.survey.specs.Reading.{starts_with, form_at, next_form, in_order}
use Rattle.tally_book.specs.Book.{same_word}

-- Whether two texts are the same, byte by byte: the test by which words are the same.
abbrev pub same_text : List ℕ → List ℕ → Bool
same_text u v = same_word u v

-- A text without its first `front` and its last `back` bytes.
abbrev pub inner : (front back : ℕ) → List ℕ → List ℕ
inner front back l = take (length l - (front + back)) (drop front l)

-- ---- numbers

abbrev pub is_digit : ℕ → Bool
is_digit b = leb 48 b && leb b 57

unfoldable pub all_digits : List ℕ → Bool
all_digits ds = list_all is_digit ds

abbrev pub is_none : List ℕ → Bool
is_none [] = true
is_none (b ∷ bs) = false

-- "numbers have no leading zero but 0 itself": digits, at least one, of which the first is not 0 unless it is the only one. There may be any number of them.
unfoldable pub is_number : List ℕ → Bool
is_number [] = false
is_number (d ∷ ds) = is_digit d && (all_digits ds && (is_none ds || not (eqb d 48)))

-- Whether a line is a front, a number and a back.
abbrev pub number_between : (front back : List ℕ) → List ℕ → Bool
number_between front back l =
    same_text l (front ++ (inner (length front) (length back) l ++ back)) && is_number (inner (length front) (length back) l)

-- ---- the line of a class

-- "a word is k capitals of the settings (U for T is none)": bytes of the settings' letters, which are capitals.
unfoldable pub of_letters : (letters word : List ℕ) → Bool
of_letters letters word = list_all (λ b. is_in b letters) word

-- The k bytes behind "(count ", and what stands from the next byte but one to the closing bracket.
abbrev pub word_in : (k : ℕ) → List ℕ → List ℕ
word_in k l = take k (drop 7 l)

abbrev pub digits_in : (k : ℕ) → List ℕ → List ℕ
digits_in k l = inner (8 + k) 2 l

-- (count AC 2) and LF, of a word and the digits of a number.
abbrev pub count_shape : (word digits : List ℕ) → List ℕ
count_shape word digits = bytes "(count " ++ (word ++ (bytes " " ++ (digits ++ bytes ")\n")))

unfoldable pub is_count_line : (letters : List ℕ) (k : ℕ) → List ℕ → Bool
is_count_line letters k l =
    same_text l (count_shape (word_in k l) (digits_in k l))
    && (eqb (length (word_in k l)) k && (of_letters letters (word_in k l) && is_number (digits_in k l)))

-- ---- the last line

-- (total 6) and LF
unfoldable pub is_total_line : List ℕ → Bool
is_total_line l = number_between (bytes "(total ") (bytes ")\n") l

-- ---- the survey line

-- What stands behind the mirror's name: ") (classes 10))" and LF
unfoldable pub is_classes_end : List ℕ → Bool
is_classes_end u = number_between (bytes ") (classes ") (bytes "))\n") u

-- Three forms that were read from a line are letters, k and mirror in this order, and behind them the line ends with its classes.
unfoldable pub classes_last : (l : List ℕ) (a b c : Option Form) → Bool
classes_last l None b c = false
classes_last l (Some a) None c = false
classes_last l (Some a) (Some b) None = false
classes_last l (Some a) (Some b) (Some c) = in_order a.name b.name c.name && is_classes_end (drop (c.from + c.len) l)

-- "the survey line is of the form the program reads, classes last": the three forms in order, read as the program reads them, and then (classes 10). Its
-- settings need not be good ones. What such a line is made of, `SurveyShape` (Claims) says.
unfoldable pub is_survey_line : List ℕ → Bool
is_survey_line l =
    starts_with (bytes "(survey ") l
    && classes_last l (form_at l 8) (next_form l (form_at l 8)) (next_form l (next_form l (form_at l 8)))
