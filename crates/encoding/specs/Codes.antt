-- Document 01, "Code of a word": the digits from the outside inwards, the shift, the code; and the word that a code gives. That no subtraction in these formulas
-- is cut off at 0 and each division by 2 is exact is stated in Exact.
use Rattle.std.specs.Prelude.{◌≡◌, cond, List, [], ◌∷◌, ◌++◌, ℕ, zero, suc, ◌+◌, ◌-◌, ◌*◌, ◌/◌, ◌%◌, ◌^◌, get_or, take, drop, eqb}
use Rattle.settings.specs.Settings.{half_up, is_odd}
use Rattle.encoding.specs.Words.{Mirror, Reversal, Complement, IsWord, mirror_rank, plain, canonical}

-- "let R = l(2s − 3 − l)/2 + r − 1", for a pair l < r.
unfoldable pub pair_rank : ℕ → ℕ → ℕ → ℕ
pair_rank s l r = l * (2 * s - 3 - l) / 2 + r - 1

-- The digits of a canonical word w of n letters.
-- "let l be the first letter's rank, and r the last letter's rank (reversal) or s − 1 minus it (complement)"
--   "l = r: digit 0, then the digits of the inner word, then r.
--   l < r: .. The digits are R/s rounded down plus 1, then R mod s, then the inner letters by plain rank.
--   Scanning stops at the first pair whose digits differ.
--   One letter left: digit r. None left: no digit."
-- "A self-mirrored middle letter gives its rank as the digit" (document 02, K10): its r is its rank.
unfoldable pub digits : ℕ → Mirror → ℕ → List ℕ → List ℕ
digits s m zero w = []
digits s m (suc zero) w = mirror_rank s m (get_or w 0 0) ∷ []
digits s m (suc (suc n)) w =
    let l : ℕ = get_or w 0 0 in
    let r : ℕ = mirror_rank s m (get_or w (suc n) 0) in
    let R : ℕ = pair_rank s l r in
    let inner : List ℕ = take n (drop 1 w) in
    cond (eqb l r) (0 ∷ (digits s m n inner ++ (r ∷ []))) ((R / s + 1) ∷ (R % s) ∷ inner)

-- "Let i be the pair (from 1) where l < r": 0 where no pair of two letters differs.
unfoldable pub differing_pair : ℕ → Mirror → ℕ → List ℕ → ℕ
differing_pair s m zero w = 0
differing_pair s m (suc zero) w = 0
differing_pair s m (suc (suc n)) w =
    let inner : ℕ = differing_pair s m n (take n (drop 1 w)) in
    cond (eqb (get_or w 0 0) (mirror_rank s m (get_or w (suc n) 0))) (cond (eqb inner 0) 0 (suc inner)) 1

-- "The shift is (s^(k−i) − s^c)/2 where a pair of two letters differed. It is 0 for palindromes, and 0 for a differing middle letter."
unfoldable pub shift : ℕ → ℕ → ℕ → ℕ
shift s k zero = 0
shift s k (suc i) = (s ^ (k - suc i) - s ^ half_up k) / 2

-- "Under complement with odd k, s^c / 2 is subtracted as well, always." With odd s: "For odd k the extra subtraction becomes (s − 1)/2 times
-- s^(k/2 rounded down)" (document 02, K10).
unfoldable pub odd_shift : ℕ → Mirror → ℕ → ℕ
odd_shift s Reversal k = 0
odd_shift s Complement k = cond (is_odd k) (cond (is_odd s) ((s - 1) / 2 * s ^ (k / 2)) (s ^ half_up k / 2)) 0

-- "The k digits read in base s, less a shift, are the code", of a canonical word of k letters.
unfoldable pub code_of_canonical : ℕ → Mirror → ℕ → List ℕ → ℕ
code_of_canonical s m k w = plain s (digits s m k w) - shift s k (differing_pair s m k w) - odd_shift s m k

-- "The code of a word is worked out from the outside inwards, on its canonical word."
unfoldable pub code : ℕ → Mirror → ℕ → List ℕ → ℕ
code s m k w = code_of_canonical s m k (canonical s m w)

-- Document 01, "Word of a code": "A code below the number of classes gives its canonical word".
-- w is the canonical word of k letters whose class has the code q.
pub record WordOfCode (s : ℕ) (m : Mirror) (k q : ℕ) (w : List ℕ) : Type 0 where
  pub word : IsWord s k w
  pub own_canonical : canonical s m w ≡ w
  pub own_code : code s m k w ≡ q
