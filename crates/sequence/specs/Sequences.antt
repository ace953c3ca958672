-- Document 01, "Codes along a sequence", with the grounds for refusing the call: what both paths, the general and the two-bit one, promise.
use Rattle.std.specs.Prelude.{ℕ, Bool, true, cond, ◌&&◌, List, [], ◌∷◌, map, length, Option, is_some}
use Rattle.settings.specs.Grounds.{Ground, Outcome, ground, ground_at, too_short, ◌or_else◌, Overwrites}
use Rattle.settings.specs.Settings.{rank_in, mirror_of, settings_ground}
use Rattle.settings.specs.Limits.{too_long}
use Rattle.encoding.specs.Codes.{code}
use Rattle.encoding.specs.Calls.{ranks_of}
use Rattle.laws.specs.Windows.{windows}
use Rattle.settings.specs.Given.{Given}

-- "18,446,744,073,709,551,615 if one of them is not a letter of the settings": 2^64 - 1, which is no code, since codes are below 2^62.
abbrev pub no_code : ℕ
no_code = 18446744073709551615

-- Whether every byte is a letter of the settings, that is, has a rank.
unfoldable pub all_letters : List ℕ → List ℕ → Bool
all_letters letters [] = true
all_letters letters (b ∷ bs) = is_some (rank_in letters b) && all_letters letters bs

-- "the code of the k bytes from j, or 18,446,744,073,709,551,615 if one of them is not a letter of the settings"
unfoldable pub code_or_none : (settings : Given) (word : List ℕ) → ℕ
code_or_none settings word = cond (all_letters settings.letters word) (code (length settings.letters) (mirror_of settings.mirror) settings.k (ranks_of settings.letters word)) no_code

-- "place j of a lent list of 64-bit numbers receives the code of the k bytes from j": one number a window, "Places count from 0".
unfoldable pub sequence_codes : (settings : Given) (sequence : List ℕ) → List ℕ
sequence_codes settings sequence = map (code_or_none settings) (windows settings.k sequence)

-- The grounds of the settings; 6, "plain sequence above 16,777,216 bytes"; 7, "a lent buffer too short; P is the length needed".
unfoldable pub sequence_ground : (settings : Given) (sequence : List ℕ) (room : ℕ) → Option Ground
sequence_ground settings sequence room =
    settings_ground settings
    or_else ground 6 (too_long sequence)
    or_else ground_at 7 (too_short room (length (windows settings.k sequence)))

-- The contract of both paths: "the answer is how many were filled", and the lent list, of which "later places keep their numbers"; a refused call
-- changes no place.
abbrev pub FillsCodes : (settings : Given) (sequence old : List ℕ) (answer : Outcome ℕ) (new : List ℕ) → Type 0
FillsCodes settings sequence old answer new =
    Overwrites (sequence_ground settings sequence (length old)) (length (windows settings.k sequence)) (sequence_codes settings sequence) old answer new
