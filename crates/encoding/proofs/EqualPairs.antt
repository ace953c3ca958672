-- The number of equal outer pairs, found from the two plain ranks X and Y: their first p digits agree and the next ones differ.
use Rattle.std.proofs.Common.{◌≡◌, sym, ap, ◌∙◌, cond, List, [], ◌∷◌, ◌++◌, ◌≢◌, ℕ, zero, suc, ◌+◌, ◌-◌, ◌*◌, ◌/◌, ◌^◌, ◌<◌, ◌≤◌, arith, eq-eqb, ne_eqb, eqb, length}
use lib.Arith.{digits_div}
use Rattle.laws.proofs.DigitWindows.{prefix_ends, prefix_lt, digits-first, digits-rest}
use Rattle.encoding.specs.Words.{Mirror, Ranks, mirror_rank, mirror, plain}
use Rattle.encoding.specs.Needs.{equal_pairs}
use Rattle.encoding.proofs.Ends.{ends, plain-ends, equal_pairs-ends}
use Rattle.encoding.proofs.Canonical.{mirror_rank-lt, first_lt, last_lt, inner_ranks, inner_lt, inner_mirror_lt, rest_lt, mirror_rest_lt, mirror_plain_ends}

-- X and Y of n digits in base s agree in just their first p digits, at most half of them.
pub record Agree (s n X Y p : ℕ) : Type 0 where
  pub fits : 2 * p ≤ n
  pub equal : X / s ^ (n - p) ≡ Y / s ^ (n - p)
  pub differs : 2 * suc p ≤ n → X / s ^ (n - suc p) ≢ Y / s ^ (n - suc p)

module _ (s : ℕ) (hs : 1 < s) (n a x b c y d : ℕ) (hb : b < s) (hd : d < s) (hx : x < s ^ n) (hy : y < s ^ n) where
  outer : (p : ℕ) → p ≤ n → Agree s (suc (suc n)) (a * s ^ suc n + x * s + b) (c * s ^ suc n + y * s + d) (suc p)
      → a * s ^ (n - (n - p)) + x / s ^ (n - p) ≡ c * s ^ (n - (n - p)) + y / s ^ (n - p)
  outer p h g =
      let e : suc (suc n) - suc p ≡ suc (n - p) = omega arith in
      sym (prefix_ends s n a x b (n - p) hs hb (omega arith))
      ∙ (rw e at g.equal)
      ∙ prefix_ends s n c y d (n - p) hs hd (omega arith)

  -- The digits after the first of each number, up to the pairs that agree.
  rest_of : (p z : ℕ) → p ≤ n → z < s ^ n → z / s ^ (n - p) < s ^ (n - (n - p))
  rest_of p z h g = prefix_lt s n z (n - p) hs (omega arith) g

  agree_first : (p : ℕ) → Agree s (suc (suc n)) (a * s ^ suc n + x * s + b) (c * s ^ suc n + y * s + d) (suc p) → a ≡ c
  agree_first p g =
      let h : p ≤ n = omega (arith, g.fits) in
      digits-first (s ^ (n - (n - p))) a c (x / s ^ (n - p)) (y / s ^ (n - p)) (rest_of p x h hx) (rest_of p y h hy) (outer p h g)

  agree_inner : (p : ℕ) → Agree s (suc (suc n)) (a * s ^ suc n + x * s + b) (c * s ^ suc n + y * s + d) (suc p) → Agree s n x y p
  agree_inner p g =
      let h : p ≤ n = omega (arith, g.fits) in
      record {
        fits = omega (arith, g.fits);
        equal = digits-rest (s ^ (n - (n - p))) a c (x / s ^ (n - p)) (y / s ^ (n - p)) (rest_of p x h hx) (rest_of p y h hy) (outer p h g);
        differs = λ k q.
            let e : suc (suc n) - suc (suc p) ≡ suc (n - suc p) = omega arith in
            g.differs (omega arith)
            (rw e
            (prefix_ends s n a x b (n - suc p) hs hb (omega arith)
            ∙ ap (λ (z : ℕ). z * s ^ (n - (n - suc p)) + x / s ^ (n - suc p)) (agree_first p g)
            ∙ ap (λ (z : ℕ). c * s ^ (n - (n - suc p)) + z) q
            ∙ sym (prefix_ends s n c y d (n - suc p) hs hd (omega arith))));
      }

  agree_none : x * s + b < s ^ suc n → y * s + d < s ^ suc n → Agree s (suc (suc n)) (a * s ^ suc n + x * s + b) (c * s ^ suc n + y * s + d) 0 → a ≢ c
  agree_none hr hr' g q =
      let e : suc (suc n) - 1 ≡ suc n = omega arith in
      let e₁ : a * s ^ suc n + x * s + b ≡ a * s ^ suc n + (x * s + b) = omega arith in
      let e₂ : c * s ^ suc n + y * s + d ≡ c * s ^ suc n + (y * s + d) = omega arith in
      g.differs (omega arith) (rw (e, e₁, e₂, digits_div a hr, digits_div c hr') q)

-- Where the plain ranks of a word of n letters and of its mirror agree in just their first p digits (Agree), the word has p equal outer pairs.
pub agree_at : (s : ℕ) (m : Mirror) → 1 < s → (n : ℕ) (w : List ℕ) → length w ≡ n → Ranks s w → (p : ℕ)
    → Agree s n (plain s w) (plain s (mirror s m w)) p → equal_pairs s m n w ≡ p
unfolding equal_pairs
agree_at s m hs =
    ends (λ n w. Ranks s w → (p : ℕ) → Agree s n (plain s w) (plain s (mirror s m w)) p → equal_pairs s m n w ≡ p)
    (λ h p g. omega (arith, g.fits))
    (λ a h p g. omega (arith, g.fits))
    (λ n a b u l ih h p g. equal_pairs-ends s m n a b u l ∙ step n a b u l ih h p (rw (plain-ends s n a b u l, mirror_plain_ends s m n a b u l h) at g))
  where
    step : (n a b : ℕ) (u : List ℕ) (l : length u ≡ n)
        → (Ranks s u → (p : ℕ) → Agree s n (plain s u) (plain s (mirror s m u)) p → equal_pairs s m n u ≡ p)
        → (h : Ranks s (a ∷ (u ++ (b ∷ []))))
        → (p : ℕ)
        → Agree s (suc (suc n)) (a * s ^ suc n + plain s u * s + b) (mirror_rank s m b * s ^ suc n + plain s (mirror s m u) * s + mirror_rank s m a) p
        → cond (eqb a (mirror_rank s m b)) (suc (equal_pairs s m n u)) 0 ≡ p
    step n a b u l ih h zero g =
        let last = last_lt s m n a b u l h in
        let mirrored-first = mirror_rank-lt s m a (first_lt s m n a b u l h) in
        let rest = rest_lt s m n a b u l h in
        let mirrored-rest = mirror_rest_lt s m n a b u l h in
        rw (ne_eqb a (mirror_rank s m b)
        (agree_none s hs n a (plain s u) b (mirror_rank s m b) (plain s (mirror s m u)) (mirror_rank s m a) last mirrored-first
        (inner_lt s m n a b u l h) (inner_mirror_lt s m n a b u l h) rest mirrored-rest g))
    step n a b u l ih h (suc p) g =
        let last = last_lt s m n a b u l h in
        let mirrored-first = mirror_rank-lt s m a (first_lt s m n a b u l h) in
        let inner = inner_lt s m n a b u l h in
        let mirrored-inner = inner_mirror_lt s m n a b u l h in
        rw (eq-eqb a (mirror_rank s m b)
        (agree_first s hs n a (plain s u) b (mirror_rank s m b) (plain s (mirror s m u)) (mirror_rank s m a) last mirrored-first inner
        mirrored-inner p g))
        (ap suc (ih (inner_ranks s m n a b u l h) p
        (agree_inner s hs n a (plain s u) b (mirror_rank s m b) (plain s (mirror s m u)) (mirror_rank s m a) last mirrored-first inner
        mirrored-inner p g)))
