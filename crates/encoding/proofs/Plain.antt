-- The word of a plain rank: it has the letters, the ranks and the plain rank asked, and gives back each word. So plain ranks tell words apart.
use Rattle.std.proofs.Common.{◌≡◌, refl, sym, ap, ◌∙◌, subst, List, [], ◌∷◌, ℕ, zero, suc, ◌%◌, ◌^◌, ◌<◌, div-add-mod', mod-lt, div-lt_iff_lt-mul, arith, length}
use native.Mathlib.Nat.{pow-zero, pow-succ'}
use lib.Arith.{digits_div, digits_mod}
use Rattle.laws.proofs.Powers.{pow_pos}
use Rattle.encoding.specs.Words.{Ranks, plain}
use Rattle.encoding.specs.WordsOfCodes.{word_of_plain}
use Rattle.encoding.proofs.Canonical.{plain-below}

pub length-word_of_plain : (s n q : ℕ) → length (word_of_plain s n q) ≡ n
unfolding word_of_plain
length-word_of_plain s zero q = refl
length-word_of_plain s (suc n) q = ap suc (length-word_of_plain s n (q % s ^ n))

pub ranks_word_of_plain : (s n q : ℕ) → 1 < s → q < s ^ n → Ranks s (word_of_plain s n q)
unfolding word_of_plain
ranks_word_of_plain s zero q h g = tt
ranks_word_of_plain s (suc n) q h g =
    let pos = pow_pos s n h in
    let below = subst (λ (x : ℕ). q < x) (pow-succ' s n) g in
    ((div-lt_iff_lt-mul pos).1 below, ranks_word_of_plain s n (q % s ^ n) h (mod-lt q pos))

pub plain-word_of_plain : (s n q : ℕ) → 1 < s → q < s ^ n → plain s (word_of_plain s n q) ≡ q
unfolding plain word_of_plain
plain-word_of_plain s zero q h g = omega (arith, pow-zero s)
plain-word_of_plain s (suc n) q h g =
    rw (length-word_of_plain s n (q % s ^ n), plain-word_of_plain s n (q % s ^ n) h (mod-lt q (pow_pos s n h))) (div-add-mod' q (s ^ n))

pub word_of_plain-plain : (s n : ℕ) (w : List ℕ) → 1 < s → length w ≡ n → Ranks s w → word_of_plain s n (plain s w) ≡ w
unfolding plain word_of_plain
word_of_plain-plain s zero [] h l g = refl
word_of_plain-plain s zero (a ∷ w) h l g = absurd (omega arith)
word_of_plain-plain s (suc n) [] h l g = absurd (omega arith)
word_of_plain-plain s (suc n) (a ∷ w) h l g =
    let e : length w ≡ n = omega arith in
    let lt : plain s w < s ^ n = plain-below s n w e g.1 in
    rw (e, digits_div a lt, digits_mod a lt, word_of_plain-plain s n w h e g.1)

-- Words of one length and one plain rank are equal.
pub plain-injective : (s n : ℕ) (v w : List ℕ) → 1 < s → length v ≡ n → length w ≡ n → Ranks s v → Ranks s w → plain s v ≡ plain s w → v ≡ w
plain-injective s n v w h lv lw rv rw' e = sym (word_of_plain-plain s n v h lv rv) ∙ ap (word_of_plain s n) e ∙ word_of_plain-plain s n w h lw rw'
