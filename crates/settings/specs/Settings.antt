-- Document 01, "Letters, k and mirror", with the grounds for refusing settings, as document 02, K10 changes them, and a byte's rank, as K2 does.
use Rattle.std.specs.Prelude.{ℕ, zero, suc, ◌+◌, ◌-◌, ◌/◌, ◌%◌, ◌^◌, ◌≡◌, Bool, true, false, not, cond, ◌&&◌, ◌||◌, List, [], ◌∷◌, length, eqb, leb, ltb}
use Rattle.std.specs.Prelude.{Option, None, Some}
use Rattle.settings.specs.declared.Mirror.{Mirror}
use Rattle.settings.specs.declared.Mirror.TheVariants.{Reversal, Complement}
use Rattle.settings.specs.declared.Checked.{Checked}
use Rattle.settings.specs.Given.{Given}
use Rattle.settings.specs.Grounds.{Ground, ground, ◌or_else◌}
use Rattle.settings.specs.Limits.{most_words}

-- "capitals A to Z"
unfoldable pub is_capital : ℕ → Bool
is_capital b = leb 65 b && leb b 90

-- Whether b is one of some bytes or numbers.
unfoldable pub is_in : ℕ → List ℕ → Bool
is_in b [] = false
is_in b (c ∷ cs) = eqb c b || is_in b cs

-- Whether all are capitals and no two are the same.
unfoldable pub different_capitals : List ℕ → Bool
different_capitals [] = true
different_capitals (b ∷ bs) = is_capital b && (not (is_in b bs) && different_capitals bs)

-- "The letters are 2 to 16 different capitals A to Z"
unfoldable pub good_letters : List ℕ → Bool
good_letters letters = leb 2 (length letters) && (leb (length letters) 16 && different_capitals letters)

-- "A small letter counts as its capital."
unfoldable pub capital_of : ℕ → ℕ
capital_of b = cond (leb 97 b && leb b 122) (b - 32) b

-- The place of b in a list whose first place has the number n.
unfoldable pub place_from : ℕ → ℕ → List ℕ → Option ℕ
place_from n b [] = None
place_from n b (l ∷ ls) = cond (eqb l b) (Some n) (place_from (suc n) b ls)

-- "Where the settings have T and no U" (document 02, K2): T is 84, U 85.
unfoldable pub reads_u_as_t : List ℕ → Bool
reads_u_as_t letters = is_in 84 letters && not (is_in 85 letters)

-- There "U and u have T's rank": the capital that a byte is read as.
unfoldable pub read_as : List ℕ → ℕ → ℕ
read_as letters b = cond (eqb (capital_of b) 85 && reads_u_as_t letters) 84 (capital_of b)

-- "a letter's rank is its place in that list, from 0"; none for a byte that is read as no letter of the settings. A byte that has a rank is called a letter
-- of the settings everywhere, U with T's rank too.
abbrev pub rank_in : List ℕ → ℕ → Option ℕ
rank_in letters b = place_from 0 (read_as letters b) letters

-- "Mirror 0 is reversal. Mirror 1 is reverse complement": asked only of 0 and 1.
abbrev pub mirror_of : ℕ → Mirror
mirror_of zero = Reversal
mirror_of (suc n) = Complement

-- "odd k", "odd s"
unfoldable pub is_odd : ℕ → Bool
is_odd n = eqb (n % 2) 1

-- "k/2 rounded up"
unfoldable pub half_up : ℕ → ℕ
half_up k = (k + 1) / 2

-- "Number of classes: reversal, (s^k + s^c) / 2 with c = k/2 rounded up; complement, s^k / 2 for odd k and (s^k + s^(k/2)) / 2 for even k." Under
-- complement with odd s, for odd and even k: "The number of classes is (s^k + s^(k/2 rounded down)) / 2" (document 02, K10).
unfoldable pub classes : ℕ → Mirror → ℕ → ℕ
classes s Reversal k = (s ^ k + s ^ half_up k) / 2
classes s Complement k = cond (is_odd k && not (is_odd s)) (s ^ k / 2) ((s ^ k + s ^ (k / 2)) / 2)

-- Ground 4: "k is 0 or s^k above 2^62"
unfoldable pub bad_size : ℕ → ℕ → Bool
bad_size s k = eqb k 0 || ltb most_words (s ^ k)

-- The first of the grounds 1, 2 and 4 that applies to the letters, k and the mirror's number. "Refusal 3 then never occurs" (document 02, K10).
unfoldable pub settings_ground : Given → Option Ground
settings_ground settings =
    ground 1 (not (good_letters settings.letters))
    or_else ground 2 (ltb 1 settings.mirror)
    or_else ground 4 (bad_size (length settings.letters) settings.k)

-- The refusals on these grounds have no other numbers than those in a list.
abbrev pub RefusedOnlyBy : (numbers : List ℕ) → Option Ground → Type 0
RefusedOnlyBy numbers g = (f : Ground) → g ≡ Some f → is_in f.0 numbers ≡ true

-- What later calls need of good settings with s letters: s, k, the mirror, s^k and the number of classes.
abbrev pub settings_for : ℕ → ℕ → Mirror → Checked
settings_for s k m = record { s = s; k = k; mirror = m; power = s ^ k; classes = classes s m k }

-- The same of settings as a caller gives them.
abbrev pub settings_of : Given → Checked
settings_of settings = settings_for (length settings.letters) settings.k (mirror_of settings.mirror)
