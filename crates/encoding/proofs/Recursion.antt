-- The code of a canonical word by recursion on the word two letters shorter. It is shown by addition: the value of the digits is that code with
-- the shift and the odd-k subtraction added, so that natural subtraction enters once, at the end.
use Rattle.std.proofs.Common.{◌≡◌, refl, ap, ◌∙◌, Bool, true, false, cond, List, [], ◌∷◌, ◌++◌, ◌≢◌, ℕ, zero, suc, ◌+◌, ◌*◌, ◌/◌, ◌%◌, ◌^◌, ◌<◌, ◌≤◌, pow-suc, div-add-mod', arith, eqb-true, eq-eqb, ne_eqb, eqb, length, get_or, take, drop, take_at}
use lib.Dec.{eqb-suc-zero}
use lib.Seq.{get_or_at}
use Rattle.settings.specs.Settings.{is_odd, classes}
use Rattle.encoding.specs.Words.{Mirror, Reversal, Complement, Ranks, mirror_rank, plain}
use Rattle.encoding.specs.Codes.{digits, differing_pair, pair_rank, shift, odd_shift, code_of_canonical}
use Rattle.encoding.specs.WordsOfCodes.{middle_of_code}
use Rattle.encoding.proofs.ClassNumbers.{shift_suc, shift-first, odd_shift-suc, odd_shift-reversal, odd_shift-one}
use Rattle.encoding.proofs.Ends.{ends, plain-one, plain-snoc, end_digits, digits-ends, differing_pair-ends}
use Rattle.encoding.proofs.Canonical.{IsCanonical, inner_ranks, canonical_inner, canonical-one}

-- The code by recursion.
unfoldable pub code_rec : ℕ → Mirror → ℕ → List ℕ → ℕ
code_rec s m zero w = 0
code_rec s m (suc zero) w = middle_of_code s m (get_or w 0 0)
code_rec s m (suc (suc n)) w =
    let l : ℕ = get_or w 0 0 in
    let r : ℕ = mirror_rank s m (get_or w (suc n) 0) in
    let inner : List ℕ = take n (drop 1 w) in
    cond (eqb l r) (s * code_rec s m n inner + r) (s * classes s m n + pair_rank s l r * s ^ n + plain s inner)

code_rec_ends : (s : ℕ) (m : Mirror) (n a b : ℕ) (u : List ℕ) → length u ≡ n
    → code_rec s m (suc (suc n)) (a ∷ (u ++ (b ∷ [])))
    ≡ cond (eqb a (mirror_rank s m b)) (s * code_rec s m n u + mirror_rank s m b) (s * classes s m n + pair_rank s a (mirror_rank s m b) * s ^ n + plain s u)
unfolding code_rec
code_rec_ends s m n a b u h = rw (get_or_at u b [] 0 n h, take_at u (b ∷ []) n h)

-- Equal outer letters: s times the code within, plus r.
pub code_rec_same : (s : ℕ) (m : Mirror) (n a b : ℕ) (u : List ℕ) → length u ≡ n → a ≡ mirror_rank s m b
    → code_rec s m (suc (suc n)) (a ∷ (u ++ (b ∷ []))) ≡ s * code_rec s m n u + mirror_rank s m b
code_rec_same s m n a b u l e = code_rec_ends s m n a b u l ∙ rw (eq-eqb a (mirror_rank s m b) e)

-- Outer letters that differ: all codes of equal outer letters, then R s^n, then the plain rank of the inner letters.
pub code_rec_differ : (s : ℕ) (m : Mirror) (n a b : ℕ) (u : List ℕ) → length u ≡ n → a ≢ mirror_rank s m b
    → code_rec s m (suc (suc n)) (a ∷ (u ++ (b ∷ []))) ≡ s * classes s m n + pair_rank s a (mirror_rank s m b) * s ^ n + plain s u
code_rec_differ s m n a b u l e = code_rec_ends s m n a b u l ∙ rw (ne_eqb a (mirror_rank s m b) e)

-- The pair that differs is one of the n/2 pairs.
pub differing_pair-le : (s : ℕ) (m : Mirror) (n : ℕ) (w : List ℕ) → 2 * differing_pair s m n w ≤ n
unfolding differing_pair
differing_pair-le s m zero w = omega arith
differing_pair-le s m (suc zero) w = omega arith
differing_pair-le s m (suc (suc n)) w =
    go (eqb (get_or w 0 0) (mirror_rank s m (get_or w (suc n) 0))) (eqb (differing_pair s m n (take n (drop 1 w))) 0) (differing_pair-le s m n (take n (drop 1 w)))
  where
    go : (t₁ t₂ : Bool) → 2 * differing_pair s m n (take n (drop 1 w)) ≤ n
        → 2 * cond t₁ (cond t₂ 0 (suc (differing_pair s m n (take n (drop 1 w))))) 1 ≤ suc (suc n)
    go true true g = omega arith
    go true false g = omega arith
    go false t₂ g = omega arith

shift-inner : (s n i : ℕ) → 1 < s → 2 * i ≤ n → shift s (suc (suc n)) (cond (eqb i 0) 0 (suc i)) ≡ s * shift s n i
unfolding shift
shift-inner s n zero h g = omega arith
shift-inner s n (suc i) h g = rw (eqb-suc-zero i) (shift_suc s n i h g)

-- The value of the two digits of a pair.
pub pair_value : (s R p q x : ℕ) → q ≡ p * s → (R / s + 1) * q + (R % s * p + x) ≡ R * p + q + x
pair_value s R p q x e = omega (arith, ap (λ (y : ℕ). y * p) (div-add-mod' R s), ap (λ (y : ℕ). R / s * y) e)

value_same : (s c v x y o d r : ℕ) → v ≡ c + x + o → d ≡ v * s + r → y ≡ s * x → d ≡ s * c + r + y + s * o
value_same s c v x y o d r e f g = omega (arith, ap (λ (z : ℕ). z * s) e)

module _ (s : ℕ) (m : Mirror) (hs : 1 < s) where
  -- What is shown by induction on the outer letters: the digits' value is the code with the shifts added.
  abbrev Value : ℕ → List ℕ → Type 0
  Value n w = Ranks s w → IsCanonical s m w → plain s (digits s m n w) ≡ code_rec s m n w + shift s n (differing_pair s m n w) + odd_shift s m n

  value_step : (n a b : ℕ) (u : List ℕ) → length u ≡ n → Value n u → Value (suc (suc n)) (a ∷ (u ++ (b ∷ [])))
  unfolding plain
  value_step n a b u l ih h g =
      rw (digits-ends s m n a b u l, differing_pair-ends s m n a b u l, code_rec_ends s m n a b u l)
      (go (eqb a (mirror_rank s m b)) refl)
    where
      go : (t : Bool) → eqb a (mirror_rank s m b) ≡ t
          → plain s (end_digits s m n a u (mirror_rank s m b) t)
          ≡ cond t (s * code_rec s m n u + mirror_rank s m b) (s * classes s m n + pair_rank s a (mirror_rank s m b) * s ^ n + plain s u)
          + shift s (suc (suc n)) (cond t (cond (eqb (differing_pair s m n u) 0) 0 (suc (differing_pair s m n u))) 1) + odd_shift s m (suc (suc n))
      go true e =
          rw (odd_shift-suc s m n)
          (value_same s (code_rec s m n u) (plain s (digits s m n u)) (shift s n (differing_pair s m n u)) _ (odd_shift s m n) _ (mirror_rank s m b)
          (ih (inner_ranks s m n a b u l h) (canonical_inner s m n a b u l h g (eqb-true a (mirror_rank s m b) e)))
          (omega (arith, plain-snoc s (mirror_rank s m b) (digits s m n u)))
          (shift-inner s n (differing_pair s m n u) hs (differing_pair-le s m n u)))
      go false e =
          rw l
          (omega (arith, pair_value s (pair_rank s a (mirror_rank s m b)) (s ^ n) (s ^ suc n) (plain s u) (pow-suc s n), shift-first s m n hs))

zero-value : (s : ℕ) (m : Mirror) → 0 ≡ 0 + shift s 0 0 + odd_shift s m 0
unfolding shift odd_shift is_odd
zero-value s Reversal = refl
zero-value s Complement = refl

one_value : (s : ℕ) (m : Mirror) (a : ℕ) → a < s → a ≤ mirror_rank s m a → mirror_rank s m a ≡ middle_of_code s m a + shift s 1 0 + odd_shift s m 1
unfolding mirror_rank middle_of_code shift
one_value s Reversal a h g = omega (arith, odd_shift-reversal s 1)
one_value s Complement a h g = omega (arith, odd_shift-one s)

module _ (s : ℕ) (m : Mirror) (hs : 1 < s) where
  value_zero : Value s m hs 0 []
  unfolding digits code_rec differing_pair plain
  value_zero h g = zero-value s m

  value_one : (a : ℕ) → Value s m hs 1 (a ∷ [])
  unfolding digits code_rec differing_pair
  value_one a h g = plain-one s (mirror_rank s m a) ∙ one_value s m a h.0 (canonical-one s m a g)

  -- The value of a canonical word's digits is its code by recursion, which is its code (`code_is` below), with the shift and the odd-k subtraction
  -- added: neither subtraction is cut off.
  pub value : (n : ℕ) (w : List ℕ) → length w ≡ n → Ranks s w → IsCanonical s m w
      → plain s (digits s m n w) ≡ code_rec s m n w + shift s n (differing_pair s m n w) + odd_shift s m n
  value = ends (Value s m hs) value_zero value_one (value_step s m hs)

  -- The code of a canonical word is the one by recursion.
  pub code_is : (n : ℕ) (w : List ℕ) → length w ≡ n → Ranks s w → IsCanonical s m w → code_of_canonical s m n w ≡ code_rec s m n w
  unfolding code_of_canonical
  code_is n w l h g = omega (arith, value n w l h g)
