-- No value on the way to a code reaches s^k: the digits of a canonical word of k letters, read in base s, are below it.
use Rattle.std.proofs.Common.{◌≡◌, List, [], ◌∷◌, ◌++◌, ℕ, suc, ◌+◌, ◌*◌, ◌^◌, ◌<◌, ◌≤◌, pow-suc, mul-le-mul_right, mul-le-mul_left, arith, eq-eqb, ne_eqb, eqb, length}
use native.Mathlib.Nat.{pow-zero}
use native.Mathlib.Decide.{ℕ_discrete}
use Rattle.laws.proofs.Powers.{pair_count, square, pow-one, pow-two_more}
use Rattle.encoding.specs.Words.{Mirror, Ranks, mirror_rank, plain}
use Rattle.encoding.specs.Codes.{digits, pair_rank}
use Rattle.encoding.proofs.Ends.{ends, end_digits, digits-ends, plain-one, plain-snoc}
use Rattle.encoding.proofs.Canonical.{IsCanonical, mirror_rank-lt, last_lt, inner_ranks, inner_lt, canonical_first, canonical_inner}
use Rattle.encoding.proofs.Recursion.{pair_value}
use Rattle.encoding.proofs.Pairs.{below_pairs}

pub value_differ_lt : (s R p x : ℕ) → 1 < s → R < pair_count s → x < p → R * p + p * s + x < p * s * s
value_differ_lt s R p x hs h_r hx =
    let e : R + s + 1 ≤ s * s = omega (arith, square s) in
    omega (arith, mul-le-mul_right p e)

module _ (s : ℕ) (m : Mirror) (hs : 1 < s) where
  abbrev Low : ℕ → List ℕ → Type 0
  Low n w = Ranks s w → IsCanonical s m w → plain s (digits s m n w) < s ^ n

  low_step : (n a b : ℕ) (u : List ℕ) → length u ≡ n → Low n u → Low (suc (suc n)) (a ∷ (u ++ (b ∷ [])))
  unfolding plain
  low_step n a b u l ih h g =
      let hr = mirror_rank-lt s m b (last_lt s m n a b u l h) in
      let hl = canonical_first s m n a b u l h g in
      rw (digits-ends s m n a b u l)
      (elim (ℕ_discrete a (mirror_rank s m b)) as (λ _.
      plain s (end_digits s m n a u (mirror_rank s m b) (eqb a (mirror_rank s m b))) < s ^ suc (suc n)) [
        | yes e ↦
            let lt : plain s (digits s m n u) < s ^ n = ih (inner_ranks s m n a b u l h) (canonical_inner s m n a b u l h g e) in
            rw (eq-eqb a (mirror_rank s m b) e, plain-snoc s (mirror_rank s m b) (digits s m n u))
            (omega (arith, mul-le-mul_right s lt, pow-two_more s n, mul-le-mul_left (s ^ n * s) hs))
        | no ne ↦
            let lt : a < mirror_rank s m b = omega arith in
            rw (ne_eqb a (mirror_rank s m b) ne, l)
            (omega (
              arith,
              pair_value s (pair_rank s a (mirror_rank s m b)) (s ^ n) (s ^ suc n) (plain s u) (pow-suc s n),
              value_differ_lt s (pair_rank s a (mirror_rank s m b)) (s ^ n) (plain s u) hs (below_pairs s a (mirror_rank s m b) lt hr) (inner_lt s m n a b u l h),
              pow-suc s n,
              pow-two_more s n,
            ))
      ])

  low_zero : Low 0 []
  unfolding digits plain
  low_zero h g = omega (arith, pow-zero s)

  low_one : (a : ℕ) → Low 1 (a ∷ [])
  unfolding digits
  low_one a h g = omega (arith, plain-one s (mirror_rank s m a), mirror_rank-lt s m a h.0, pow-one s)

  -- The value of the digits of a canonical word of n letters is below s^n.
  pub value_lt : (n : ℕ) (w : List ℕ) → length w ≡ n → Ranks s w → IsCanonical s m w → plain s (digits s m n w) < s ^ n
  value_lt = ends Low low_zero low_one low_step
