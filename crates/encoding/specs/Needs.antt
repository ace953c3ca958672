-- What the laws of the encoding, and functions of `codes` and of the kernels, speak of on the way; no sentence of document 01 rests on it: how many outer
-- pairs of a word are equal, and the number of palindromes.
use Rattle.std.specs.Prelude.{not, cond, ◌&&◌, List, ℕ, zero, suc, ◌/◌, ◌^◌, get_or, take, drop, eqb}
use Rattle.settings.specs.Settings.{half_up, is_odd}
use Rattle.encoding.specs.Words.{Mirror, Reversal, Complement, mirror_rank}

-- The number of outer pairs that are equal, up to the first that differs or the middle.
unfoldable pub equal_pairs : ℕ → Mirror → ℕ → List ℕ → ℕ
equal_pairs s m zero w = 0
equal_pairs s m (suc zero) w = 0
equal_pairs s m (suc (suc n)) w =
    let inner : ℕ = equal_pairs s m n (take n (drop 1 w)) in
    cond (eqb (get_or w 0 0) (mirror_rank s m (get_or w (suc n) 0))) (suc inner) 0

-- The number of palindromes of n letters: what stands beside s^n in twice the number of classes. Under complement the middle letter of an odd word
-- must be its own mirror, which no letter of an even s is and just one of an odd s.
unfoldable pub palindromes : ℕ → Mirror → ℕ → ℕ
palindromes s Reversal n = s ^ half_up n
palindromes s Complement n = cond (is_odd n && not (is_odd s)) 0 (s ^ (n / 2))
