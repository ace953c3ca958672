-- A way by computing to the word that a code gives, `word_of`. That it leads to that word (`WordOfCode` in Codes.antt), and that there is no other, is
-- shown in proofs/Theorems.antt: `word_of_code`, `word_of_code_unique`. So nothing here need be believed.
use Rattle.std.specs.Prelude.{cond, List, [], ◌∷◌, ◌++◌, ℕ, zero, suc, ◌-◌, ◌*◌, ◌/◌, ◌%◌, ◌^◌, ltb}
use Rattle.settings.specs.Settings.{classes}
use Rattle.encoding.specs.Words.{Mirror, Reversal, Complement, mirror_rank}

-- The word of n letters with plain rank q.
unfoldable pub word_of_plain : ℕ → ℕ → ℕ → List ℕ
word_of_plain s zero q = []
word_of_plain s (suc n) q = (q / s ^ n) ∷ word_of_plain s n (q % s ^ n)

-- The pair l < r ≤ t with rank R among the pairs of t + 1 letters: the first t ranks are the pairs with l = 0.
unfoldable pub pair_of_rank : ℕ → ℕ → ℕ × ℕ
pair_of_rank zero R = (0, 0)
pair_of_rank (suc t) R =
    let inner : ℕ × ℕ = pair_of_rank t (R - suc t) in
    cond (ltb R (suc t)) (0, suc R) (suc inner.0, suc inner.1)

-- The canonical word of one letter with code q.
unfoldable pub middle_of_code : ℕ → Mirror → ℕ → ℕ
middle_of_code s Reversal q = q
middle_of_code s Complement q = (s - 1) / 2 - q

-- The canonical word of n letters with code q. The lowest s * classes(n - 2) codes are those of words with equal outer letters.
unfoldable pub word_of : ℕ → Mirror → ℕ → ℕ → List ℕ
word_of s m zero q = []
word_of s m (suc zero) q = middle_of_code s m q ∷ []
word_of s m (suc (suc n)) q =
    let low : ℕ = s * classes s m n in
    let lr : ℕ × ℕ = pair_of_rank (s - 1) ((q - low) / s ^ n) in
    let same : List ℕ = (q % s) ∷ (word_of s m n (q / s) ++ (mirror_rank s m (q % s) ∷ [])) in
    let differ : List ℕ = lr.0 ∷ (word_of_plain s n ((q - low) % s ^ n) ++ (mirror_rank s m lr.1 ∷ [])) in
    cond (ltb q low) same differ
