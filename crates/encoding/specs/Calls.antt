-- Document 01, "Code of a word", "Word of a code, and the canonical pick" and "Grounds for refusing": words and codes as the calls take and give
-- them, a byte for a letter and 0 or 1 for the mirror. Each call's grounds stand in number order.
use Rattle.std.specs.Prelude.{ℕ, suc, Bool, not, List, [], ◌∷◌, map, length, get_or, eqb, leb, ltb, Option, None, Some}
use Rattle.settings.specs.Grounds.{Ground, Outcome, ground, ground_at, too_short, outcome, ◌or_else◌}
use Rattle.settings.specs.Settings.{rank_in, mirror_of, classes, settings_ground}
use Rattle.encoding.specs.Words.{mirror, plain}
use Rattle.encoding.specs.Codes.{code}
use Rattle.encoding.specs.WordsOfCodes.{word_of}
use Rattle.settings.specs.Given.{Given}

-- ---- from bytes to ranks and back

-- A byte that has no rank stands as rank 0, which no answer shows: ground 9 refuses its word.
abbrev pub rank_or_zero : Option ℕ → ℕ
rank_or_zero None = 0
rank_or_zero (Some rank) = rank

abbrev pub rank_at : List ℕ → ℕ → ℕ
rank_at letters b = rank_or_zero (rank_in letters b)

-- The ranks of a word's bytes.
unfoldable pub ranks_of : List ℕ → List ℕ → List ℕ
ranks_of letters word = map (rank_at letters) word

-- A word of ranks "in capitals": the settings' letters are capitals.
unfoldable pub in_capitals : List ℕ → List ℕ → List ℕ
in_capitals letters w = map (λ (i : ℕ). get_or letters i 0) w

-- ---- grounds

-- 5: "word length not k"
abbrev pub wrong_length : ℕ → List ℕ → Bool
wrong_length k word = not (eqb (length word) k)

-- The place n where the byte there has no rank, else what is found later.
abbrev pub here_or : Option ℕ → ℕ → Option ℕ → Option ℕ
here_or None n later = Some n
here_or (Some rank) n later = later

-- 9: "a byte of a word is no settings letter; P its place": the place of the first that has no rank, of bytes whose first has the place n.
unfoldable pub foreign_from : List ℕ → ℕ → List ℕ → Option ℕ
foreign_from letters n [] = None
foreign_from letters n (b ∷ bs) = here_or (rank_in letters b) n (foreign_from letters (suc n) bs)

-- Coding a word: the grounds 1, 2, 4, 5 and 9.
unfoldable pub code_ground : (settings : Given) (word : List ℕ) → Option Ground
code_ground settings word =
    settings_ground settings
    or_else ground 5 (wrong_length settings.k word)
    or_else ground_at 9 (foreign_from settings.letters 0 word)

-- Reading a code: the grounds 1, 2, 4, 7 and 8.
unfoldable pub read_ground : (settings : Given) (q room : ℕ) → Option Ground
read_ground settings q room =
    settings_ground settings
    or_else ground_at 7 (too_short room settings.k)
    or_else ground 8 (not (ltb q (classes (length settings.letters) (mirror_of settings.mirror) settings.k)))

-- Mirroring a word: the grounds 1, 2, 4, 5, 7 and 9.
unfoldable pub mirror_ground : (settings : Given) (word : List ℕ) (room : ℕ) → Option Ground
mirror_ground settings word room =
    settings_ground settings
    or_else ground 5 (wrong_length settings.k word)
    or_else ground_at 7 (too_short room settings.k)
    or_else ground_at 9 (foreign_from settings.letters 0 word)

-- The pick is refused where coding either word is; which ground it is does not show.
unfoldable pub pick_ground : (settings : Given) (first second : List ℕ) → Option Ground
pick_ground settings first second = code_ground settings first or_else code_ground settings second

-- ---- answers

-- "Word coding answers the code."
unfoldable pub coding : (settings : Given) (word : List ℕ) → Outcome ℕ
coding settings word = outcome (code_ground settings word) (code (length settings.letters) (mirror_of settings.mirror) settings.k (ranks_of settings.letters word))

-- Reading answers how many bytes it wrote, which is k.
abbrev pub reading : (settings : Given) (q room : ℕ) → Outcome ℕ
reading settings q room = outcome (read_ground settings q room) settings.k

-- "A code below the number of classes gives its canonical word, in capitals"
unfoldable pub word_bytes : (settings : Given) (q : ℕ) → List ℕ
word_bytes settings q = in_capitals settings.letters (word_of (length settings.letters) (mirror_of settings.mirror) settings.k q)

-- "Mirroring writes a word's mirror in capitals"
unfoldable pub mirror_bytes : (letters : List ℕ) (mirror : ℕ) (word : List ℕ) → List ℕ
mirror_bytes letters m word = in_capitals letters (mirror (length letters) (mirror_of m) (ranks_of letters word))

-- "the one with the lower plain rank; the first if they are equal": whether that is the first.
unfoldable pub first_picked : (letters first second : List ℕ) → Bool
first_picked letters first second = leb (plain (length letters) (ranks_of letters first)) (plain (length letters) (ranks_of letters second))
