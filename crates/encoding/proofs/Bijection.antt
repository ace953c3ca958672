-- The code by recursion is a bijection from the canonical words of n letters onto the numbers below the number of classes, and `word_of` its inverse:
-- `coded` goes from the word to the code and back, `worded` from the code to the word and back, each by induction in steps of two letters.
use Rattle.std.proofs.Common.{◌≡◌, refl, sym, ap, ◌∙◌, subst, List, [], ◌∷◌, ◌++◌, ℕ, zero, suc, ◌+◌, ◌-◌, ◌*◌, ◌/◌, ◌%◌, ◌^◌, ◌<◌, ◌≤◌, div-add-mod', mod-lt, div-lt_iff_lt-mul, mul_comm, arith, le-leb, length}
use native.Mathlib.Nat.{pow-zero, div-add-mod}
use native.Mathlib.Decide.{ℕ_discrete, dec_lt}
use borrow.Author.Tests.{lt-leb}
use lib.Arith.{digits_div, digits_mod, digits_lt}
use Rattle.settings.specs.Settings.{half_up, is_odd, classes}
use Rattle.laws.proofs.Powers.{pair_count, pow_pos}
use Rattle.encoding.specs.Words.{Mirror, Reversal, Complement, Ranks, mirror_rank, plain}
use Rattle.encoding.specs.Codes.{pair_rank}
use Rattle.encoding.specs.WordsOfCodes.{word_of_plain, pair_of_rank, middle_of_code, word_of}
use Rattle.encoding.proofs.ClassNumbers.{classes-suc, classes-one_reversal, classes-one_complement}
use Rattle.encoding.proofs.Ends.{ends, length-ends, Ranks-ends}
use Rattle.encoding.proofs.Canonical.{IsCanonical, mirror_rank-lt, mirror_rank-twice, first_lt, last_lt, inner_ranks, inner_lt, canonical_first, canonical_inner, differ_canonical, same_canonical, canonical-one, one_canonical, nil-canonical}
use Rattle.encoding.proofs.Recursion.{code_rec, code_rec_same, code_rec_differ}
use Rattle.encoding.proofs.Pairs.{below_pairs, pair_of_rank_lem, rank_of_pair}
use Rattle.encoding.proofs.Plain.{length-word_of_plain, ranks_word_of_plain, plain-word_of_plain, word_of_plain-plain}

-- ---- the two cases of the word of a code

pub word_low : (s : ℕ) (m : Mirror) (n q : ℕ) → q < s * classes s m n
    → word_of s m (suc (suc n)) q ≡ (q % s) ∷ (word_of s m n (q / s) ++ (mirror_rank s m (q % s) ∷ []))
unfolding word_of
word_low s m n q h = rw (le-leb (suc q) (s * classes s m n) h)

pub word_high : (s : ℕ) (m : Mirror) (n q : ℕ)
    → word_of s m (suc (suc n)) (s * classes s m n + q)
    ≡ (pair_of_rank (s - 1) (q / s ^ n)).0 ∷ (word_of_plain s n (q % s ^ n) ++ (mirror_rank s m (pair_of_rank (s - 1) (q / s ^ n)).1 ∷ []))
unfolding word_of
word_high s m n q =
    let e : s * classes s m n + q - s * classes s m n ≡ q = omega arith in
    rw (lt-leb (suc (s * classes s m n + q)) (s * classes s m n) (omega arith), e)

-- ---- numbers

div-low : (s c r : ℕ) → r < s → (s * c + r) / s ≡ c
div-low s c r h = rw (mul_comm s c) (digits_div c h)

mod_low : (s c r : ℕ) → r < s → (s * c + r) % s ≡ r
mod_low s c r h = rw (mul_comm s c) (digits_mod c h)

-- ---- the middle letter, or none

classes-zero : (s : ℕ) (m : Mirror) → classes s m 0 ≡ 1
unfolding classes is_odd half_up
classes-zero s Reversal = rw (pow-zero s)
classes-zero s Complement = rw (pow-zero s)

middle_lt : (s : ℕ) (m : Mirror) (a : ℕ) → a < s → a ≤ mirror_rank s m a → middle_of_code s m a < classes s m 1
unfolding middle_of_code mirror_rank
middle_lt s Reversal a h g = omega (arith, classes-one_reversal s)
middle_lt s Complement a h g = omega (arith, classes-one_complement s)

middle_middle : (s : ℕ) (m : Mirror) (a : ℕ) → a < s → a ≤ mirror_rank s m a → middle_of_code s m (middle_of_code s m a) ≡ a
unfolding middle_of_code mirror_rank
middle_middle s Reversal a h g = refl
middle_middle s Complement a h g = omega arith

middle_of : (s : ℕ) (m : Mirror) (q : ℕ) → q < classes s m 1
    → (middle_of_code s m q < s) × (middle_of_code s m q ≤ mirror_rank s m (middle_of_code s m q)) × (middle_of_code s m (middle_of_code s m q) ≡ q)
unfolding middle_of_code mirror_rank
middle_of s Reversal q h = omega (arith, classes-one_reversal s)
middle_of s Complement q h = omega (arith, classes-one_complement s)

-- ---- from the word to the code and back

pub record Coded (s : ℕ) (m : Mirror) (n : ℕ) (w : List ℕ) : Type 0 where
  pub below : code_rec s m n w < classes s m n
  pub back : word_of s m n (code_rec s m n w) ≡ w

module _ (s : ℕ) (m : Mirror) (hs : 1 < s) where
  coded_same : (n a b : ℕ) (u : List ℕ) → length u ≡ n → a < s → b < s → a ≡ mirror_rank s m b → Coded s m n u → Coded s m (suc (suc n)) (a ∷ (u ++ (b ∷ [])))
  coded_same n a b u l ha hb e ih =
      let c : ℕ = code_rec s m n u in
      let r : ℕ = mirror_rank s m b in
      let hr : r < s = mirror_rank-lt s m b hb in
      let lt : s * c + r < s * classes s m n = omega (arith, digits_lt ih.below hr) in
      record {
        below = rw (code_rec_same s m n a b u l e, classes-suc s m n) (omega arith);
        back =
            rw (
              code_rec_same s m n a b u l e,
              word_low s m n (s * code_rec s m n u + mirror_rank s m b) lt,
              div-low s (code_rec s m n u) (mirror_rank s m b) hr,
              mod_low s (code_rec s m n u) (mirror_rank s m b) hr,
              ih.back,
              mirror_rank-twice s m b hb,
              e,
            );
      }

  coded_differ : (n a b : ℕ) (u : List ℕ) → length u ≡ n → Ranks s u → plain s u < s ^ n → b < s → a < mirror_rank s m b
      → Coded s m (suc (suc n)) (a ∷ (u ++ (b ∷ [])))
  coded_differ n a b u l hu pu hb lt =
      let r : ℕ = mirror_rank s m b in
      let hr : r < s = mirror_rank-lt s m b hb in
      let e : code_rec s m (suc (suc n)) (a ∷ (u ++ (b ∷ []))) ≡ s * classes s m n + (pair_rank s a (mirror_rank s m b) * s ^ n + plain s u)
      = code_rec_differ s m n a b u l (omega arith) ∙ (omega arith) in
      record {
        below = rw (e, classes-suc s m n) (omega (arith, digits_lt (below_pairs s a r lt hr) pu));
        back =
            rw (
              e,
              word_high s m n (pair_rank s a (mirror_rank s m b) * s ^ n + plain s u),
              digits_div (pair_rank s a (mirror_rank s m b)) pu,
              digits_mod (pair_rank s a (mirror_rank s m b)) pu,
              pair_of_rank_lem s a (mirror_rank s m b) lt hr,
              word_of_plain-plain s n u hs l hu,
              mirror_rank-twice s m b hb,
            );
      }

  coded_step : (n a b : ℕ) (u : List ℕ) → length u ≡ n
      → (Ranks s u → IsCanonical s m u → Coded s m n u)
      → Ranks s (a ∷ (u ++ (b ∷ [])))
      → IsCanonical s m (a ∷ (u ++ (b ∷ [])))
      → Coded s m (suc (suc n)) (a ∷ (u ++ (b ∷ [])))
  coded_step n a b u l ih h g =
      elim (ℕ_discrete a (mirror_rank s m b)) as (λ d. Coded s m (suc (suc n)) (a ∷ (u ++ (b ∷ [])))) [
        | yes e ↦
            coded_same n a b u l (first_lt s m n a b u l h) (last_lt s m n a b u l h) e
            (ih (inner_ranks s m n a b u l h) (canonical_inner s m n a b u l h g e))
        | no ne ↦
            let le : a ≤ mirror_rank s m b = canonical_first s m n a b u l h g in
            coded_differ n a b u l (inner_ranks s m n a b u l h) (inner_lt s m n a b u l h) (last_lt s m n a b u l h) (omega arith)
      ]

  coded_zero : Coded s m 0 []
  unfolding code_rec word_of
  coded_zero = record { below = omega (arith, classes-zero s m); back = refl }

  coded_one : (a : ℕ) → a < s → a ≤ mirror_rank s m a → Coded s m 1 (a ∷ [])
  unfolding code_rec word_of
  coded_one a h g = record { below = middle_lt s m a h g; back = ap (λ (x : ℕ). x ∷ []) (middle_middle s m a h g) }

  pub coded : (n : ℕ) (w : List ℕ) → length w ≡ n → Ranks s w → IsCanonical s m w → Coded s m n w
  coded = ends (λ n w. Ranks s w → IsCanonical s m w → Coded s m n w) (λ h g. coded_zero) (λ a h g. coded_one a h.0 (canonical-one s m a g)) coded_step

-- ---- from the code to the word and back

pub record Worded (s : ℕ) (m : Mirror) (n q : ℕ) (w : List ℕ) : Type 0 where
  pub len : length w ≡ n
  pub ranks : Ranks s w
  pub least : IsCanonical s m w
  pub back : code_rec s m n w ≡ q

module _ (s : ℕ) (m : Mirror) (hs : 1 < s) where
  worded_same : (n c r : ℕ) (u : List ℕ) → r < s → Worded s m n c u → Worded s m (suc (suc n)) (s * c + r) (r ∷ (u ++ (mirror_rank s m r ∷ [])))
  worded_same n c r u hr g =
      let tr : mirror_rank s m r < s = mirror_rank-lt s m r hr in
      let e : r ≡ mirror_rank s m (mirror_rank s m r) = sym (mirror_rank-twice s m r hr) in
      let hw : Ranks s (r ∷ (u ++ (mirror_rank s m r ∷ []))) = Ranks-ends s r (mirror_rank s m r) u hr tr g.ranks in
      record {
        len = length-ends n r (mirror_rank s m r) u g.len;
        ranks = hw;
        least = same_canonical s m n r (mirror_rank s m r) u g.len hw e g.least;
        back = rw (code_rec_same s m n r (mirror_rank s m r) u g.len e, g.back, mirror_rank-twice s m r hr);
      }

  worded_differ : (n l r x : ℕ) → l < r → r < s → x < s ^ n
      → Worded s m (suc (suc n)) (s * classes s m n + (pair_rank s l r * s ^ n + x)) (l ∷ (word_of_plain s n x ++ (mirror_rank s m r ∷ [])))
  worded_differ n l r x h hr hx =
      let tr : mirror_rank s m r < s = mirror_rank-lt s m r hr in
      let e : mirror_rank s m (mirror_rank s m r) ≡ r = mirror_rank-twice s m r hr in
      let lu : length (word_of_plain s n x) ≡ n = length-word_of_plain s n x in
      let hw : Ranks s (l ∷ (word_of_plain s n x ++ (mirror_rank s m r ∷ [])))
      = Ranks-ends s l (mirror_rank s m r) (word_of_plain s n x) (omega arith) tr (ranks_word_of_plain s n x hs hx) in
      record {
        len = length-ends n l (mirror_rank s m r) (word_of_plain s n x) lu;
        ranks = hw;
        least = differ_canonical s m n l (mirror_rank s m r) (word_of_plain s n x) lu hw (omega arith);
        back = rw (code_rec_differ s m n l (mirror_rank s m r) (word_of_plain s n x) lu (omega arith), e, plain-word_of_plain s n x hs hx) (omega arith);
      }

  worded_low : (n q : ℕ) → q < s * classes s m n → Worded s m n (q / s) (word_of s m n (q / s)) → Worded s m (suc (suc n)) q (word_of s m (suc (suc n)) q)
  worded_low n q h ih =
      rw (word_low s m n q h)
      (subst (λ (x : ℕ). Worded s m (suc (suc n)) x ((q % s) ∷ (word_of s m n (q / s) ++ (mirror_rank s m (q % s) ∷ [])))) (div-add-mod q s)
      (worded_same n (q / s) (q % s) (word_of s m n (q / s)) (mod-lt q (omega arith)) ih))

  worded_high : (n q : ℕ) → q < pair_count s * s ^ n → Worded s m (suc (suc n)) (s * classes s m n + q) (word_of s m (suc (suc n)) (s * classes s m n + q))
  worded_high n q h =
      let p : ℕ × ℕ = pair_of_rank (s - 1) (q / s ^ n) in
      let pos = pow_pos s n hs in
      let g = rank_of_pair s (q / s ^ n) ((div-lt_iff_lt-mul pos).1 h) in
      rw (word_high s m n q)
      (subst (λ (x : ℕ). Worded s m (suc (suc n)) (s * classes s m n + x) (p.0 ∷ (word_of_plain s n (q % s ^ n) ++ (mirror_rank s m p.1 ∷ []))))
      (ap (λ (R : ℕ). R * s ^ n + q % s ^ n) g.1 ∙ div-add-mod' q (s ^ n))
      (worded_differ n p.0 p.1 (q % s ^ n) g.0.below (omega (arith, g.0.within)) (mod-lt q pos)))

  pub worded : (n q : ℕ) → q < classes s m n → Worded s m n q (word_of s m n q)
  unfolding code_rec word_of
  worded zero q h = record { len = refl; ranks = tt; least = nil-canonical s m; back = omega (arith, classes-zero s m) }
  worded (suc zero) q h =
      let g = middle_of s m q h in
      record { len = refl; ranks = (g.0, tt); least = one_canonical s m (middle_of_code s m q) g.1; back = g.2 }
  worded (suc (suc n)) q h =
      elim (dec_lt q (s * classes s m n)) as (λ d. Worded s m (suc (suc n)) q (word_of s m (suc (suc n)) q)) [
        | yes p ↦ worded_low n q p (worded n (q / s) ((div-lt_iff_lt-mul (omega arith)).1 (omega arith)))
        | no np ↦
            let e : s * classes s m n + (q - s * classes s m n) ≡ q = omega arith in
            subst (λ (x : ℕ). Worded s m (suc (suc n)) x (word_of s m (suc (suc n)) x)) e
            (worded_high n (q - s * classes s m n) (omega (arith, classes-suc s m n)))
      ]
