-- What is drawn: n letters for n, each a rank below the number of letters. From the definitions of the step and of a state's rank.
use Rattle.std.proofs.Common.{◌≡◌, refl, ap, ◌∙◌, List, ℕ, zero, suc, ◌+◌, ◌*◌, ◌/◌, ◌^◌, ◌<◌, mod-lt, div-lt_iff_lt-mul, mul-lt-mul_of_pos_right, arith, length, get_or}
use lib.ListN.{length-map}
use Rattle.encoding.specs.Words.{Ranks}
use Rattle.encoding.specs.Calls.{in_capitals}
use Rattle.testload.specs.TestLoad.{stepped, drawn_rank, drawn, drawn_letters}

-- A state is a 64-bit number.
state_fits : (x : ℕ) → stepped x < 2 ^ 64
unfolding stepped
state_fits x = mod-lt (x * 6364136223846793005 + 1442695040888963407) (omega arith)

-- The rank of a 64-bit state is below s.
pub rank_below : (s x : ℕ) → 0 < s → x < 2 ^ 64 → drawn_rank s x < s
unfolding drawn_rank
rank_below s x pos h =
    let some_bits : 0 < 2 ^ 32 = omega arith in
    let top : x / 2 ^ 32 < 2 ^ 32 = omega arith in
    let product : x / 2 ^ 32 * s < s * 2 ^ 32 = omega (arith, mul-lt-mul_of_pos_right top pos) in
    (div-lt_iff_lt-mul some_bits).1 product

pub drawn-ranks : (s n x : ℕ) → 0 < s → Ranks s (drawn s n x)
unfolding drawn
drawn-ranks s zero x pos = tt
drawn-ranks s (suc n) x pos = (rank_below s (stepped x) pos (state_fits x), drawn-ranks s n (stepped x) pos)

pub length-drawn : (s n x : ℕ) → length (drawn s n x) ≡ n
unfolding drawn
length-drawn s zero x = refl
length-drawn s (suc n) x = ap suc (length-drawn s n (stepped x))

pub length-letters : (letters : List ℕ) (n x : ℕ) → length (drawn_letters letters n x) ≡ n
unfolding drawn_letters in_capitals
length-letters letters n x = length-map (drawn (length letters) n x) (λ (i : ℕ). get_or letters i 0) ∙ length-drawn (length letters) n x
