-- The rank of a pair l < r < s is a bijection onto the numbers below s(s - 1)/2, and `pair_of_rank` its inverse.
use Rattle.std.proofs.Common.{◌≡◌, ap, ◌∙◌, ℕ, zero, suc, ◌+◌, ◌-◌, ◌*◌, ◌<◌, ◌≤◌, mul-le-mul_right, arith, lt-ltb, le-ltb}
use mathlib.Core.Path.{subst⁻¹}
use native.Mathlib.Decide.{dec_le}
use Rattle.laws.proofs.Powers.{pair_count, square}
use Rattle.encoding.specs.Codes.{pair_rank}
use Rattle.encoding.specs.Exact.{ExactRank}
use Rattle.encoding.specs.WordsOfCodes.{pair_of_rank}

-- In the rank no subtraction is cut off, and the half is exact.
pub exact_rank : (s l r : ℕ) → l < r → r < s → ExactRank s l r
unfolding pair_rank
exact_rank s l r h g =
    let d : ℕ = 2 * s - 3 - l in
    let e : d + l + 3 ≡ 2 * s = omega arith in
    let f : l * d + l * l + 3 * l ≡ 2 * (l * s) = omega (arith, ap (λ (x : ℕ). l * x) e) in
    record { less_l = e; halved = omega (arith, square l); less_one = omega arith }

-- So the rank with no subtraction and no division.
rank_twice : (s l r : ℕ) → l < r → r < s → 2 * pair_rank s l r + l * l + 3 * l + 2 ≡ 2 * (l * s) + 2 * r
rank_twice s l r h g =
    let E = exact_rank s l r h g in
    omega (arith, ap (λ (x : ℕ). l * x) E.less_l, E.halved, E.less_one)

rank_zero : (s r : ℕ) → 0 < r → r < s → pair_rank s 0 r ≡ r - 1
rank_zero s r h g = omega (arith, rank_twice s 0 r h g)

rank_suc : (t l r : ℕ) → l < r → r ≤ t → pair_rank (suc (suc t)) (suc l) (suc r) ≡ suc t + pair_rank (suc t) l r
rank_suc t l r h g = omega (arith, rank_twice (suc (suc t)) (suc l) (suc r) (omega arith) (omega arith), rank_twice (suc t) l r h (omega arith))

rank_lt : (t l r : ℕ) → l < r → r ≤ t → pair_rank (suc t) l r < pair_count (suc t)
unfolding pair_count
rank_lt zero l r h g = absurd (omega arith)
rank_lt (suc t) zero r h g = omega (arith, rank_zero (suc (suc t)) r h (omega arith))
rank_lt (suc t) (suc l) zero h g = absurd (omega arith)
rank_lt (suc t) (suc l) (suc r) h g = omega (arith, rank_suc t l r (omega arith) (omega arith), rank_lt t l r (omega arith) (omega arith))

-- Of at most 16 letters, the product in the rank is at most 16 * 32.
pub pair_small : (s l : ℕ) → l < s → s ≤ 16 → l * (2 * s - 3 - l) ≤ 512
pair_small s l h g =
    let e : l ≤ 16 = omega arith in
    let f : 2 * s - 3 - l ≤ 32 = omega arith in
    omega (arith, mul-le-mul_right (2 * s - 3 - l) e)

-- The pair of a rank: the first t ranks are those of the pairs with l = 0, and the others have both their numbers one higher.
pub rank_here : (t R : ℕ) → R < t → pair_of_rank t R ≡ (0, suc R)
unfolding pair_of_rank
rank_here zero R h = absurd (omega arith)
rank_here (suc t) R h = rw (lt-ltb R (suc t) h)

pub rank_next : (t R : ℕ) → 0 < t → t ≤ R → pair_of_rank t R ≡ (suc (pair_of_rank (t - 1) (R - t)).0, suc (pair_of_rank (t - 1) (R - t)).1)
unfolding pair_of_rank
rank_next zero R h g = absurd (omega arith)
rank_next (suc t) R h g = let e : suc t - 1 ≡ t = omega arith in rw (e, le-ltb R (suc t) g)

of_rank-rank : (t l r : ℕ) → l < r → r ≤ t → pair_of_rank t (pair_rank (suc t) l r) ≡ (l, r)
of_rank-rank zero l r h g = absurd (omega arith)
of_rank-rank (suc t) zero zero h g = absurd (omega arith)
of_rank-rank (suc t) zero (suc r) h g =
    let e : pair_rank (suc (suc t)) 0 (suc r) ≡ r = omega (arith, rank_zero (suc (suc t)) (suc r) h (omega arith)) in
    rw e (rank_here (suc t) r (omega arith))
of_rank-rank (suc t) (suc l) zero h g = absurd (omega arith)
of_rank-rank (suc t) (suc l) (suc r) h g =
    let R : ℕ = pair_rank (suc (suc t)) (suc l) (suc r) in
    let R-is : R ≡ suc t + pair_rank (suc t) l r = rank_suc t l r (omega arith) (omega arith) in
    let one_less : suc t - 1 ≡ t = omega arith in
    let inner : R - suc t ≡ pair_rank (suc t) l r = omega arith in
    rank_next (suc t) R (omega arith) (omega arith) ∙ rw (one_less, inner, of_rank-rank t l r (omega arith) (omega arith))

-- What is to be shown of the pair of a rank.
pub record IsPair (t R : ℕ) (p : ℕ × ℕ) : Type 0 where
  pub below : p.0 < p.1
  pub within : p.1 ≤ t
  pub rank : pair_rank (suc t) p.0 p.1 ≡ R

of_rank-pair : (t R : ℕ) → R < pair_count (suc t) → IsPair t R (pair_of_rank t R)
unfolding pair_count
of_rank-pair zero R h = absurd (omega arith)
of_rank-pair (suc t) R h =
    elim (dec_le (suc t) R) as (λ d. IsPair (suc t) R (pair_of_rank (suc t) R)) [
      | yes p ↦ subst⁻¹ (λ (x : ℕ × ℕ). IsPair (suc t) R x) (higher p) (high p (of_rank-pair t (R - suc t) (omega arith)))
      | no np ↦ subst⁻¹ (λ (x : ℕ × ℕ). IsPair (suc t) R x) (rank_here (suc t) R (omega arith))
          (record { below = omega arith; within = omega arith; rank = omega (arith, rank_zero (suc (suc t)) (suc R) (omega arith) (omega arith)) })
    ]
  where
    inner : ℕ × ℕ
    inner = pair_of_rank t (R - suc t)

    higher : suc t ≤ R → pair_of_rank (suc t) R ≡ (suc inner.0, suc inner.1)
    higher p = let one_less : suc t - 1 ≡ t = omega arith in rank_next (suc t) R (omega arith) p ∙ rw one_less

    high : suc t ≤ R → IsPair t (R - suc t) inner → IsPair (suc t) R (suc inner.0, suc inner.1)
    high p g =
        record {
          below = omega (arith, g.below);
          within = omega (arith, g.within);
          rank = rank_suc t inner.0 inner.1 g.below g.within ∙ omega (arith, g.rank);
        }

-- The same over s letters.
pub below_pairs : (s l r : ℕ) → l < r → r < s → pair_rank s l r < pair_count s
below_pairs zero l r h g = absurd (omega arith)
below_pairs (suc t) l r h g = rank_lt t l r h (omega arith)

pub pair_of_rank_lem : (s l r : ℕ) → l < r → r < s → pair_of_rank (s - 1) (pair_rank s l r) ≡ (l, r)
pair_of_rank_lem zero l r h g = absurd (omega arith)
pair_of_rank_lem (suc t) l r h g = let e : suc t - 1 ≡ t = omega arith in rw e (of_rank-rank t l r h (omega arith))

pub rank_of_pair : (s R : ℕ) → R < pair_count s → IsPair (s - 1) R (pair_of_rank (s - 1) R) × (pair_rank s (pair_of_rank (s - 1) R).0 (pair_of_rank (s - 1) R).1 ≡ R)
unfolding pair_count
rank_of_pair zero R h = absurd (omega arith)
rank_of_pair (suc t) R h =
    let e : suc t - 1 ≡ t = omega arith in
    rw e (of_rank-pair t R h, (of_rank-pair t R h).rank)
