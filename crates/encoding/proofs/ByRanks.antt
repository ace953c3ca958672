-- The code from numbers alone: the plain rank X of the canonical word, Y of its mirror, and the number p of equal outer pairs, by powers,
-- quotients and remainders. By induction over the word from both ends.
use Rattle.std.proofs.Common.{◌≡◌, refl, sym, ap, ◌∙◌, Bool, true, false, cond, List, [], ◌∷◌, ◌++◌, ℕ, zero, suc, ◌+◌, ◌-◌, ◌*◌, ◌%◌, ◌^◌, ◌<◌, ◌≤◌, pow-suc, div-one, mod-lt, mod-eq_of_lt, arith, eq-eqb, ne_eqb, eqb, length, get_or, take, drop}
use native.Mathlib.Nat.{pow-zero, mod-one}
use native.Mathlib.Decide.{ℕ_discrete}
use Rattle.settings.specs.Settings.{classes}
use Rattle.laws.proofs.Powers.{pow_pos, pow-one}
use Rattle.laws.proofs.DigitWindows.{window, window_ends, window_first, window_inner, low_ends}
use Rattle.encoding.specs.Words.{Mirror, Reversal, Complement, Ranks, mirror_rank, mirror, plain}
use Rattle.encoding.specs.Codes.{pair_rank, code_of_canonical}
use Rattle.encoding.specs.WordsOfCodes.{middle_of_code}
use Rattle.encoding.specs.Needs.{equal_pairs}
use Rattle.encoding.proofs.Ends.{ends, plain-ends, plain-one, equal_pairs-ends}
use Rattle.encoding.proofs.Canonical.{IsCanonical, mirror_rank-lt, first_lt, last_lt, inner_ranks, inner_lt, rest_lt, mirror_rest_lt, mirror_plain_ends, canonical_inner}
use Rattle.encoding.proofs.Recursion.{code_rec, code_is, code_rec_same, code_rec_differ}

pub equal_pairs-le : (s : ℕ) (m : Mirror) (n : ℕ) (w : List ℕ) → 2 * equal_pairs s m n w ≤ n
unfolding equal_pairs
equal_pairs-le s m zero w = omega arith
equal_pairs-le s m (suc zero) w = omega arith
equal_pairs-le s m (suc (suc n)) w =
    go (eqb (get_or w 0 0) (mirror_rank s m (get_or w (suc n) 0))) (equal_pairs s m n (take n (drop 1 w))) (equal_pairs-le s m n (take n (drop 1 w)))
  where
    go : (t : Bool) (p : ℕ) → 2 * p ≤ n → 2 * cond t (suc p) 0 ≤ suc (suc n)
    go true p g = omega arith
    go false p g = omega arith

-- The digits that close the code: the last p letters.
unfoldable pub closing : ℕ → Mirror → ℕ → ℕ → ℕ
closing s Reversal p X = X % s ^ p
closing s Complement p X = s ^ p - 1 - X % s ^ p

-- The code of the j letters within the p equal pairs of a word of n letters.
unfoldable pub within : ℕ → Mirror → ℕ → ℕ → ℕ → ℕ → ℕ → ℕ
within s m zero n p X Y = 0
within s m (suc zero) n p X Y = middle_of_code s m (window s p 1 X)
within s m (suc (suc j)) n p X Y =
    s * classes s m j + pair_rank s (window s (n - p - 1) 1 X) (window s (n - p - 1) 1 Y) * s ^ j + window s (p + 1) j X

unfoldable pub by_ranks : ℕ → Mirror → ℕ → ℕ → ℕ → ℕ → ℕ
by_ranks s m n p X Y = s ^ p * within s m (n - 2 * p) n p X Y + closing s m p X

-- ---- one pair more

closing_zero : (s : ℕ) (m : Mirror) (X : ℕ) → closing s m 0 X ≡ 0
unfolding closing
closing_zero s Reversal X = rw (pow-zero s) (mod-one X)
closing_zero s Complement X = rw (pow-zero s) (omega (arith, mod-one X))

complement_low : (s q x b : ℕ) → x < q → b < s → q * s - 1 - (x * s + b) ≡ s * (q - 1 - x) + (s - 1 - b)
complement_low s q x b h g =
    let d : ℕ = q - 1 - x in
    let e : q ≡ d + x + 1 = omega arith in
    go d e
  where
    go : (d : ℕ) → q ≡ d + x + 1 → q * s - 1 - (x * s + b) ≡ s * (q - 1 - x) + (s - 1 - b)
    go d e =
        let f : q - 1 - x ≡ d = omega arith in
        let k : q * s ≡ d * s + x * s + s = omega (arith, ap (λ (y : ℕ). y * s) e) in
        rw f (omega arith)

closing_ends : (s : ℕ) (m : Mirror) (n a x b p : ℕ) → 1 < s → b < s → p ≤ n
    → closing s m (suc p) (a * s ^ suc n + x * s + b) ≡ s * closing s m p x + mirror_rank s m b
unfolding closing mirror_rank
closing_ends s Reversal n a x b p hs hb h = low_ends s n a x b p hs hb h ∙ omega arith
closing_ends s Complement n a x b p hs hb h =
    rw (low_ends s n a x b p hs hb h, pow-suc s p) (complement_low s (s ^ p) (x % s ^ p) b (mod-lt x (pow_pos s p hs)) hb)

within_ends : (s : ℕ) (m : Mirror) (j n p a x b c y d : ℕ) → 1 < s → b < s → d < s → 2 * p + j ≡ n
    → within s m j (suc (suc n)) (suc p) (a * s ^ suc n + x * s + b) (c * s ^ suc n + y * s + d) ≡ within s m j n p x y
unfolding within
within_ends s m zero n p a x b c y d hs hb hd e = refl
within_ends s m (suc zero) n p a x b c y d hs hb hd e = ap (middle_of_code s m) (window_ends s n a x b p 1 hs hb (omega arith))
within_ends s m (suc (suc j)) n p a x b c y d hs hb hd e =
    let e₁ : suc (suc n) - suc p - 1 ≡ suc (n - p - 1) = omega arith in
    let e₂ : suc p + 1 ≡ suc (p + 1) = omega arith in
    rw (
      e₁,
      e₂,
      window_ends s n a x b (n - p - 1) 1 hs hb (omega arith),
      window_ends s n c y d (n - p - 1) 1 hs hd (omega arith),
      window_ends s n a x b (p + 1) j hs hb (omega arith),
    )

by_ranks_ends : (s : ℕ) (m : Mirror) (n p a x b c y d : ℕ) → 1 < s → b < s → d < s → 2 * p ≤ n
    → by_ranks s m (suc (suc n)) (suc p) (a * s ^ suc n + x * s + b) (c * s ^ suc n + y * s + d) ≡ s * by_ranks s m n p x y + mirror_rank s m b
unfolding by_ranks
by_ranks_ends s m n p a x b c y d hs hb hd h =
    let e : suc (suc n) - 2 * suc p ≡ n - 2 * p = omega arith in
    rw (e, within_ends s m (n - 2 * p) n p a x b c y d hs hb hd (omega arith), closing_ends s m n a x b p hs hb (omega arith), pow-suc s p)
    (omega arith)

-- ---- the outer pair differs

by_ranks_differ : (s : ℕ) (m : Mirror) (n a x b c y d : ℕ) → 1 < s → a < s → c < s → b < s → x < s ^ n → x * s + b < s ^ suc n → y * s + d < s ^ suc n
    → by_ranks s m (suc (suc n)) 0 (a * s ^ suc n + x * s + b) (c * s ^ suc n + y * s + d) ≡ s * classes s m n + pair_rank s a c * s ^ n + x
unfolding by_ranks within
by_ranks_differ s m n a x b c y d hs ha hc hb hx hr hr' =
    let e : suc (suc n) - 2 * 0 ≡ suc (suc n) = omega arith in
    let e₁ : suc (suc n) - 0 - 1 ≡ suc n = omega arith in
    let f : window s (suc n) 1 (a * s ^ suc n + x * s + b) ≡ a = ap (window s (suc n) 1) (omega arith) ∙ window_first s (suc n) a (x * s + b) ha hr in
    let g : window s (suc n) 1 (c * s ^ suc n + y * s + d) ≡ c = ap (window s (suc n) 1) (omega arith) ∙ window_first s (suc n) c (y * s + d) hc hr' in
    rw (e, closing_zero s m (a * s ^ suc n + x * s + b), e₁, f, g, window_inner s n a x b hs hb hx, pow-zero s) (omega arith)

-- ---- the law

module _ (s : ℕ) (m : Mirror) (hs : 1 < s) where
  abbrev Ranked : ℕ → List ℕ → Type 0
  Ranked n w = Ranks s w → IsCanonical s m w → code_rec s m n w ≡ by_ranks s m n (equal_pairs s m n w) (plain s w) (plain s (mirror s m w))

  ranked_zero : Ranked 0 []
  unfolding code_rec equal_pairs by_ranks within
  ranked_zero h g = sym (rw (closing_zero s m (plain s [])) (omega arith))

  ranked_one : (a : ℕ) → Ranked 1 (a ∷ [])
  unfolding code_rec equal_pairs by_ranks within window
  ranked_one a h g =
      sym
      (rw (closing_zero s m (plain s (a ∷ [])), pow-zero s, plain-one s a, div-one a, pow-one s, mod-eq_of_lt h.0) (omega arith))

  ranked_step : (n a b : ℕ) (u : List ℕ) → length u ≡ n → Ranked n u → Ranked (suc (suc n)) (a ∷ (u ++ (b ∷ [])))
  ranked_step n a b u l ih h g =
      let ha = first_lt s m n a b u l h in
      let hb = last_lt s m n a b u l h in
      let hu = inner_ranks s m n a b u l h in
      rw (equal_pairs-ends s m n a b u l, plain-ends s n a b u l, mirror_plain_ends s m n a b u l h)
      (elim (ℕ_discrete a (mirror_rank s m b)) as (λ _.
      code_rec s m (suc (suc n)) (a ∷ (u ++ (b ∷ [])))
      ≡ by_ranks s m (suc (suc n)) (cond (eqb a (mirror_rank s m b)) (suc (equal_pairs s m n u)) 0) (a * s ^ suc n + plain s u * s + b)
      (mirror_rank s m b * s ^ suc n + plain s (mirror s m u) * s + mirror_rank s m a)) [
        | yes e ↦
            rw (
              code_rec_same s m n a b u l e,
              eq-eqb a (mirror_rank s m b) e,
              by_ranks_ends s m n (equal_pairs s m n u) a (plain s u) b (mirror_rank s m b) (plain s (mirror s m u)) (mirror_rank s m a) hs hb
                  (mirror_rank-lt s m a ha) (equal_pairs-le s m n u),
            )
            (ap (λ (x : ℕ). s * x + mirror_rank s m b) (ih hu (canonical_inner s m n a b u l h g e)))
        | no ne ↦
            rw (code_rec_differ s m n a b u l ne, ne_eqb a (mirror_rank s m b) ne)
            (sym
            (by_ranks_differ s m n a (plain s u) b (mirror_rank s m b) (plain s (mirror s m u)) (mirror_rank s m a) hs ha (mirror_rank-lt s m b hb) hb
            (inner_lt s m n a b u l h) (rest_lt s m n a b u l h) (mirror_rest_lt s m n a b u l h)))
      ])

  ranked : (n : ℕ) (w : List ℕ) → length w ≡ n → Ranks s w → IsCanonical s m w
      → code_rec s m n w ≡ by_ranks s m n (equal_pairs s m n w) (plain s w) (plain s (mirror s m w))
  ranked = ends Ranked ranked_zero ranked_one ranked_step

  -- The code of a canonical word, from its plain rank, its mirror's and the number of equal outer pairs.
  pub code_by_ranks : (n : ℕ) (w : List ℕ) → length w ≡ n → Ranks s w → IsCanonical s m w
      → code_of_canonical s m n w ≡ by_ranks s m n (equal_pairs s m n w) (plain s w) (plain s (mirror s m w))
  code_by_ranks n w l h g = code_is s m hs n w l h g ∙ ranked n w l h g
