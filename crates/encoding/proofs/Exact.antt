-- No subtraction in the formulas of the encoding is cut off at 0, and each division by 2 in them is exact, as specs/Exact.antt states it: for R (`exact_rank`, in
-- Pairs), for the shift, from two powers of s that differ by an even number, and for the number of classes and the odd-k subtraction, from `twice_classes` and
-- `odd_palindromes`. The code of a word needs no others, since at each pair of a canonical word that is reached l ≤ r.
use Rattle.std.proofs.Common.{◌≡◌, ap, true, false, not, ◌&&◌, List, [], ◌∷◌, ◌++◌, ℕ, zero, suc, ◌+◌, ◌-◌, ◌*◌, ◌/◌, ◌^◌, ◌<◌, ◌≤◌, arith, length, take_at}
use mathlib.Core.Bool.{and-false}
use lib.Seq.{get_or_at}
use Rattle.settings.specs.Settings.{half_up, is_odd, classes}
use Rattle.settings.specs.Limits.{Limits}
use Rattle.settings.proofs.Parity.{odd_is, even_is}
use Rattle.laws.proofs.Powers.{gap}
use Rattle.encoding.specs.Words.{Mirror, Reversal, Complement, Ranks, IsWord, mirror_rank, canonical}
use Rattle.encoding.specs.Codes.{shift, odd_shift}
use Rattle.encoding.specs.Exact.{ExactShift, ExactNumbers, ExactPairs, NothingCutOff}
use Rattle.encoding.specs.Needs.{palindromes}
use Rattle.encoding.proofs.Ends.{ends}
use Rattle.encoding.proofs.ClassNumbers.{half_up-twice, twice_classes, odd_palindromes, some_palindromes, no_palindromes, odd_shift-odd}
use Rattle.encoding.proofs.Pairs.{exact_rank}
use Rattle.encoding.proofs.Canonical.{IsCanonical, mirror_rank-lt, last_lt, inner_ranks, canonical_first, canonical_inner}
use Rattle.encoding.proofs.Recursion.{differing_pair-le}
use Rattle.encoding.proofs.Codes.{is_canonical}

-- Two powers of s, the first not below the second, differ by an even number.
powers_differ : (s a b : ℕ) → 1 < s → 1 ≤ b → b ≤ a → (d : ℕ) × (s ^ a ≡ s ^ b + 2 * d)
powers_differ s a zero hs some low = absurd (omega arith)
powers_differ s zero (suc b) hs some low = absurd (omega arith)
powers_differ s (suc a) (suc b) hs some low = gap s a b hs (omega arith)

pub exact_shift : (s k i : ℕ) → 1 < s → 1 ≤ i → 2 * i ≤ k → ExactShift s k i
unfolding shift
exact_shift s k zero hs some low = absurd (omega arith)
exact_shift s k (suc i) hs some low =
    let (d, e) = powers_differ s (k - suc i) (half_up k) hs (omega (arith, half_up-twice k)) (omega (arith, half_up-twice k)) in
    record { less_i = omega arith; less_power = omega arith; halved = omega arith }

twice_reversal : (s k : ℕ) → 2 * classes s Reversal k ≡ s ^ k + s ^ half_up k
unfolding palindromes
twice_reversal s k = twice_classes s Reversal k

-- Twice the number under complement, where there are palindromes and where there are none.
twice_some : (s k : ℕ) → (is_odd k && not (is_odd s)) ≡ false → 2 * classes s Complement k ≡ s ^ k + s ^ (k / 2)
twice_some s k some = omega (arith, twice_classes s Complement k, some_palindromes s k some)

twice_none : (s k : ℕ) → (is_odd k && not (is_odd s)) ≡ true → (2 * classes s Complement k ≡ s ^ k) × (2 * odd_shift s Complement k ≡ s ^ half_up k)
twice_none s k none =
    let no-palindrome = no_palindromes s k none in
    (omega (arith, twice_classes s Complement k), omega (arith, odd_palindromes s Complement k))

pub exact_numbers : (s k : ℕ) → ExactNumbers s k
unfolding mirror_rank
exact_numbers s k = record {
  mirrored = λ i below. omega arith;
  rounded_up = half_up-twice k;
  reversal_halved = twice_reversal s k;
  odd_k_halved = λ o e. (twice_none s k (rw (o, e))).0;
  even_k_halved = λ e. (omega (arith, even_is k e), twice_some s k (rw e));
  odd_s_halved = λ o. twice_some s k (rw o (and-false (is_odd k)));
  subtraction_halved = λ o e. (twice_none s k (rw (o, e))).1;
  odd_s_less_one = λ o. (omega (arith, odd_is s o), omega (arith, odd_is s o));
  odd_s_subtraction = λ o e.
      let rest : 2 * (s / 2) ≡ s - 1 = omega (arith, odd_is s e) in
      omega (arith, odd_shift-odd s k o, ap (λ (x : ℕ). x * s ^ (k / 2)) rest);
}

module _ (s : ℕ) (m : Mirror) where
  abbrev Pairs : ℕ → List ℕ → Type 0
  Pairs n w = Ranks s w → IsCanonical s m w → ExactPairs s m n w

  -- On a canonical word l ≤ r; where l = r, the inner word is canonical too.
  pairs_step : (n a b : ℕ) (u : List ℕ) → length u ≡ n → Pairs n u → Pairs (suc (suc n)) (a ∷ (u ++ (b ∷ [])))
  unfolding ExactPairs
  pairs_step n a b u l ih h g =
      let r : ℕ = mirror_rank s m b in
      rw (get_or_at u b [] 0 n l, take_at u (b ∷ []) n l) (
        λ same. ih (inner_ranks s m n a b u l h) (canonical_inner s m n a b u l h g same),
        λ differ.
            let low : a < r = omega (arith, canonical_first s m n a b u l h g) in
            (low, exact_rank s a r low (mirror_rank-lt s m b (last_lt s m n a b u l h))),
      )

  exact_pairs : (n : ℕ) (w : List ℕ) → length w ≡ n → Pairs n w
  unfolding ExactPairs
  exact_pairs = ends Pairs (λ h g. tt) (λ a h g. tt) pairs_step

  -- So it is of every word.
  pub nothing_cut_off : (k : ℕ) → Limits s k → (w : List ℕ) → IsWord s k w → NothingCutOff s m k w
  nothing_cut_off k within w i =
      let C = is_canonical s m k w i.letters i.ranks in
      record {
        pairs = exact_pairs k (canonical s m w) C.len C.ranks C.least;
        shifted = λ j e. exact_shift s k (suc j) within.two (omega arith) (omega (arith, e, differing_pair-le s m k (canonical s m w)));
      }
