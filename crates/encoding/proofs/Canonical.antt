-- The mirror and the canonical word by their ends: the mirror of a word is a word, a word is its mirror's mirror, and a word is canonical
-- when its first letter is below the last one as the mirror shows it, or equal to it with a canonical word within.
use Rattle.std.proofs.Common.{◌≡◌, refl, ap, ◌∙◌, List, [], ◌∷◌, ◌++◌, ℕ, suc, ◌+◌, ◌*◌, ◌^◌, ◌<◌, ◌≤◌, pow-suc, mul-le-mul_right, le_of_mul-le-mul_right, arith, length}
use native.Mathlib.Nat.{pow-zero}
use native.Mathlib.Decide.{dec_le}
use lib.Arith.{digits_lt}
use Rattle.encoding.specs.Words.{Mirror, Reversal, Complement, Ranks, mirror_rank, mirror, plain}
use Rattle.encoding.proofs.Ends.{ends, Ranks-left, Ranks-right, Ranks-ends, plain-one, plain-ends, mirror-ends, length-mirror}

-- A word that is not above its mirror.
abbrev pub IsCanonical : ℕ → Mirror → List ℕ → Type 0
IsCanonical s m w = plain s w ≤ plain s (mirror s m w)

pub mirror_rank-lt : (s : ℕ) (m : Mirror) (a : ℕ) → a < s → mirror_rank s m a < s
unfolding mirror_rank
mirror_rank-lt s Reversal a h = h
mirror_rank-lt s Complement a h = omega arith

pub mirror_rank-twice : (s : ℕ) (m : Mirror) (a : ℕ) → a < s → mirror_rank s m (mirror_rank s m a) ≡ a
unfolding mirror_rank
mirror_rank-twice s Reversal a h = refl
mirror_rank-twice s Complement a h = omega arith

plain-lt : (s : ℕ) (w : List ℕ) → Ranks s w → plain s w < s ^ length w
unfolding plain
plain-lt s [] h = omega (arith, pow-zero s)
plain-lt s (a ∷ w) h = omega (arith, plain-lt s w h.1, pow-suc s (length w), mul-le-mul_right (s ^ length w) h.0)

-- The same of a word of n letters.
pub plain-below : (s n : ℕ) (w : List ℕ) → length w ≡ n → Ranks s w → plain s w < s ^ n
plain-below s n w l h = rw l at (plain-lt s w h)

-- The mirror of a word of ranks is one.
pub Ranks-mirror : (s : ℕ) (m : Mirror) (n : ℕ) (w : List ℕ) → length w ≡ n → Ranks s w → Ranks s (mirror s m w)
unfolding mirror
Ranks-mirror s m =
    ends (λ n w. Ranks s w → Ranks s (mirror s m w)) (λ h. tt) (λ a h. (mirror_rank-lt s m a h.0, tt))
    (λ n a b u l ih h.
    let first = mirror_rank-lt s m a h.0 in
    let last = mirror_rank-lt s m b (Ranks-right s u (b ∷ []) h.1).0 in
    let inner = ih (Ranks-left s u (b ∷ []) h.1) in
    rw (mirror-ends s m a b u) (Ranks-ends s (mirror_rank s m b) (mirror_rank s m a) (mirror s m u) last first inner))

-- The mirror of the mirror is the word.
pub mirror-mirror : (s : ℕ) (m : Mirror) (n : ℕ) (w : List ℕ) → length w ≡ n → Ranks s w → mirror s m (mirror s m w) ≡ w
unfolding mirror
mirror-mirror s m =
    ends (λ n w. Ranks s w → mirror s m (mirror s m w) ≡ w) (λ h. refl) (λ a h. ap (λ (x : ℕ). x ∷ []) (mirror_rank-twice s m a h.0))
    (λ n a b u l ih h.
    ap (mirror s m) (mirror-ends s m a b u)
    ∙ mirror-ends s m (mirror_rank s m b) (mirror_rank s m a) (mirror s m u)
    ∙ rw (mirror_rank-twice s m a h.0, mirror_rank-twice s m b (Ranks-right s u (b ∷ []) h.1).0, ih (Ranks-left s u (b ∷ []) h.1)))

-- ---- the canonical word by its ends

-- two numbers of three parts, digit, middle and last: the higher first digit wins
first_digit : (s p a c x y b d : ℕ) → c < a → y * s + d < p → c * p + y * s + d < a * p + x * s + b
first_digit s p a c x y b d h g = omega (arith, mul-le-mul_right p h)

module _ (s : ℕ) (m : Mirror) (n a b : ℕ) (u : List ℕ) (l : length u ≡ n) (h : Ranks s (a ∷ (u ++ (b ∷ [])))) where
  pub first_lt : a < s
  first_lt = h.0

  pub last_lt : b < s
  last_lt = (Ranks-right s u (b ∷ []) h.1).0

  pub inner_ranks : Ranks s u
  inner_ranks = Ranks-left s u (b ∷ []) h.1

  pub mirror_plain_ends : plain s (mirror s m (a ∷ (u ++ (b ∷ [])))) ≡ mirror_rank s m b * s ^ suc n + plain s (mirror s m u) * s + mirror_rank s m a
  mirror_plain_ends = rw (mirror-ends s m a b u) (plain-ends s n (mirror_rank s m b) (mirror_rank s m a) (mirror s m u) (length-mirror s m u ∙ l))

  pub inner_lt : plain s u < s ^ n
  inner_lt = plain-below s n u l inner_ranks

  pub inner_mirror_lt : plain s (mirror s m u) < s ^ n
  inner_mirror_lt = plain-below s n (mirror s m u) (length-mirror s m u ∙ l) (Ranks-mirror s m n u l inner_ranks)

  pub mirror_rest_lt : plain s (mirror s m u) * s + mirror_rank s m a < s ^ suc n
  mirror_rest_lt = rw (pow-suc s n) (digits_lt inner_mirror_lt (mirror_rank-lt s m a first_lt))

  pub rest_lt : plain s u * s + b < s ^ suc n
  rest_lt = rw (pow-suc s n) (digits_lt inner_lt last_lt)

  -- in a canonical word the first letter is not above the last one's mirror
  pub canonical_first : IsCanonical s m (a ∷ (u ++ (b ∷ []))) → a ≤ mirror_rank s m b
  canonical_first g =
      elim (dec_le a (mirror_rank s m b)) as (λ d. a ≤ mirror_rank s m b) [
        | yes p ↦ p
        | no np ↦
            let lt : mirror_rank s m b < a = omega arith in
            absurd
            (omega (
              arith,
              plain-ends s n a b u l,
              mirror_plain_ends,
              first_digit s (s ^ suc n) a (mirror_rank s m b) (plain s u) (plain s (mirror s m u)) b (mirror_rank s m a) lt mirror_rest_lt,
            ))
      ]

  -- and where they are equal the inner word is canonical
  pub canonical_inner : IsCanonical s m (a ∷ (u ++ (b ∷ []))) → a ≡ mirror_rank s m b → IsCanonical s m u
  canonical_inner g e =
      let f : mirror_rank s m a ≡ b = ap (mirror_rank s m) e ∙ mirror_rank-twice s m b last_lt in
      let k : plain s u * s ≤ plain s (mirror s m u) * s = omega (arith, plain-ends s n a b u l, mirror_plain_ends, ap (λ (x : ℕ). x * s ^ suc n) e) in
      le_of_mul-le-mul_right k (omega (arith, first_lt))

  -- and the other way round
  pub differ_canonical : a < mirror_rank s m b → IsCanonical s m (a ∷ (u ++ (b ∷ [])))
  differ_canonical g =
      omega (
        arith,
        plain-ends s n a b u l,
        mirror_plain_ends,
        first_digit s (s ^ suc n) (mirror_rank s m b) a (plain s (mirror s m u)) (plain s u) (mirror_rank s m a) b g rest_lt,
      )

  pub same_canonical : a ≡ mirror_rank s m b → IsCanonical s m u → IsCanonical s m (a ∷ (u ++ (b ∷ [])))
  same_canonical e k =
      let f : mirror_rank s m a ≡ b = ap (mirror_rank s m) e ∙ mirror_rank-twice s m b last_lt in
      omega (arith, plain-ends s n a b u l, mirror_plain_ends, ap (λ (x : ℕ). x * s ^ suc n) e, mul-le-mul_right s k)

-- ---- words of one letter and of none

pub canonical-one : (s : ℕ) (m : Mirror) (a : ℕ) → IsCanonical s m (a ∷ []) → a ≤ mirror_rank s m a
unfolding mirror
canonical-one s m a h = omega (arith, plain-one s a, plain-one s (mirror_rank s m a))

pub nil-canonical : (s : ℕ) (m : Mirror) → IsCanonical s m []
unfolding mirror plain
nil-canonical s m = omega arith

pub one_canonical : (s : ℕ) (m : Mirror) (a : ℕ) → a ≤ mirror_rank s m a → IsCanonical s m (a ∷ [])
unfolding mirror
one_canonical s m a h = omega (arith, plain-one s a, plain-one s (mirror_rank s m a))
