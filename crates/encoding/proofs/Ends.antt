-- A word from both ends: a ∷ (u ++ (b ∷ [])), where u is two letters shorter. The induction by it, and what each definition is at such a word,
-- so that the laws of codes do without take, drop and get_or.
use Rattle.std.proofs.Common.{◌≡◌, sym, ap, ◌∙◌, subst, Bool, cond, List, [], ◌∷◌, ◌++◌, map, reverse, ℕ, zero, suc, ◌+◌, ◌*◌, ◌/◌, ◌%◌, ◌^◌, ◌<◌, arith, eqb, length, get_or, take, drop, take-append-drop, length-append, take_at, take-suc, take_all, length-take-le}
use mathlib.Core.Path.{subst⁻¹}
use mathlib.Core.List.{map-append, reverse-append, reverse-cons}
use native.Mathlib.Nat.{pow-zero}
use lib.ListN.{length-map, length-reverse}
use lib.Seq.{get_or_at}
use Rattle.laws.proofs.Each.{each_append}
use Rattle.laws.proofs.Powers.{pow-one}
use Rattle.encoding.specs.Words.{Mirror, Ranks, mirror_rank, mirror, plain}
use Rattle.encoding.specs.Codes.{digits, differing_pair, pair_rank}
use Rattle.encoding.specs.Needs.{equal_pairs}

-- ---- the induction

-- a list that is not empty ends in a letter
last_split : (n : ℕ) (w : List ℕ) → length w ≡ suc n → w ≡ take n w ++ (get_or w n 0 ∷ [])
last_split n w h = sym (take_all (suc n) w (omega arith)) ∙ take-suc w n 0 (omega arith)

step : (P : ℕ → List ℕ → Type 0) (n a : ℕ) (w : List ℕ)
    → ((b : ℕ) (u : List ℕ) → length u ≡ n → P (suc (suc n)) (a ∷ (u ++ (b ∷ []))))
    → length w ≡ suc n
    → P (suc (suc n)) (a ∷ w)
step P n a w f h =
    subst⁻¹ (λ (v : List ℕ). P (suc (suc n)) (a ∷ v)) (last_split n w h)
    (f (get_or w n 0) (take n w) (length-take-le n w (omega arith)))

pub ends : (P : ℕ → List ℕ → Type 0)
    → P 0 []
    → ((a : ℕ) → P 1 (a ∷ []))
    → ((n a b : ℕ) (u : List ℕ) → length u ≡ n → P n u → P (suc (suc n)) (a ∷ (u ++ (b ∷ []))))
    → (n : ℕ) (w : List ℕ)
    → length w ≡ n
    → P n w
ends P p₀ p₁ p₂ zero [] h = p₀
ends P p₀ p₁ p₂ zero (a ∷ w) h = absurd (omega arith)
ends P p₀ p₁ p₂ (suc zero) [] h = absurd (omega arith)
ends P p₀ p₁ p₂ (suc zero) (a ∷ []) h = p₁ a
ends P p₀ p₁ p₂ (suc zero) (a ∷ (b ∷ w)) h = absurd (omega arith)
ends P p₀ p₁ p₂ (suc (suc n)) [] h = absurd (omega arith)
ends P p₀ p₁ p₂ (suc (suc n)) (a ∷ w) h = step P n a w (λ b u g. p₂ n a b u g (ends P p₀ p₁ p₂ n u g)) (omega arith)

-- ---- the definitions at a word with two ends

pub length-ends : (n a b : ℕ) (u : List ℕ) → length u ≡ n → length (a ∷ (u ++ (b ∷ []))) ≡ suc (suc n)
length-ends n a b u h = omega (arith, length-append u (b ∷ []))

pub Ranks-left : (s : ℕ) (u v : List ℕ) → Ranks s (u ++ v) → Ranks s u
Ranks-left s [] v h = tt
Ranks-left s (a ∷ u) v h = (h.0, Ranks-left s u v h.1)

pub Ranks-right : (s : ℕ) (u v : List ℕ) → Ranks s (u ++ v) → Ranks s v
Ranks-right s [] v h = h
Ranks-right s (a ∷ u) v h = Ranks-right s u v h.1

pub ranks_take : (s i : ℕ) (w : List ℕ) → Ranks s w → Ranks s (take i w)
ranks_take s i w h = Ranks-left s (take i w) (drop i w) (subst (Ranks s) (sym (take-append-drop i w)) h)

pub ranks_drop : (s i : ℕ) (w : List ℕ) → Ranks s w → Ranks s (drop i w)
ranks_drop s i w h = Ranks-right s (take i w) (drop i w) (subst (Ranks s) (sym (take-append-drop i w)) h)

pub Ranks-ends : (s a b : ℕ) (u : List ℕ) → a < s → b < s → Ranks s u → Ranks s (a ∷ (u ++ (b ∷ [])))
Ranks-ends s a b u ha hb hu = (ha, each_append (λ (x : ℕ). x < s) u (b ∷ []) hu (hb, tt))

pub plain-append : (s : ℕ) (u v : List ℕ) → plain s (u ++ v) ≡ plain s u * s ^ length v + plain s v
unfolding plain
plain-append s [] v = omega arith
plain-append s (a ∷ u) v =
    omega (
      arith,
      plain-append s u v,
      ap (λ (x : ℕ). a * x) (ap (λ (x : ℕ). s ^ x) (length-append u v) ∙ lib.Pow.pow-add s (length u) (length v)),
    )

pub plain-one : (s b : ℕ) → plain s (b ∷ []) ≡ b
unfolding plain
plain-one s b = omega (arith, ap (λ (x : ℕ). b * x) (pow-zero s))

pub plain-snoc : (s b : ℕ) (u : List ℕ) → plain s (u ++ (b ∷ [])) ≡ plain s u * s + b
plain-snoc s b u =
    plain-append s u (b ∷ [])
    ∙ omega (arith, plain-one s b, ap (λ (x : ℕ). plain s u * x) (pow-one s))

pub plain-ends : (s n a b : ℕ) (u : List ℕ) → length u ≡ n → plain s (a ∷ (u ++ (b ∷ []))) ≡ a * s ^ suc n + plain s u * s + b
unfolding plain
plain-ends s n a b u h =
    let e : length (u ++ (b ∷ [])) ≡ suc n = omega (arith, length-append u (b ∷ [])) in
    omega (arith, plain-snoc s b u, ap (λ (x : ℕ). a * s ^ x) e)

pub mirror-ends : (s : ℕ) (m : Mirror) (a b : ℕ) (u : List ℕ) → mirror s m (a ∷ (u ++ (b ∷ []))) ≡ mirror_rank s m b ∷ (mirror s m u ++ (mirror_rank s m a ∷ []))
unfolding mirror
mirror-ends s m a b u =
    ap (λ (l : List ℕ). map (mirror_rank s m) l) (reverse-cons a (u ++ (b ∷ [])) ∙ ap (λ (l : List ℕ). l ++ (a ∷ [])) (reverse-append u (b ∷ [])))
    ∙ map-append (mirror_rank s m) (b ∷ reverse u) (a ∷ [])

pub length-mirror : (s : ℕ) (m : Mirror) (w : List ℕ) → length (mirror s m w) ≡ length w
unfolding mirror
length-mirror s m w = length-map (reverse w) (mirror_rank s m) ∙ length-reverse w

-- The digits of a word whose outer letters are a and, as the mirror shows it, r; t says whether they are equal.
abbrev pub end_digits : ℕ → Mirror → ℕ → ℕ → List ℕ → ℕ → Bool → List ℕ
end_digits s m n a u r t = cond t (0 ∷ (digits s m n u ++ (r ∷ []))) ((pair_rank s a r / s + 1) ∷ (pair_rank s a r % s) ∷ u)

pub digits-ends : (s : ℕ) (m : Mirror) (n a b : ℕ) (u : List ℕ) → length u ≡ n
    → digits s m (suc (suc n)) (a ∷ (u ++ (b ∷ []))) ≡ end_digits s m n a u (mirror_rank s m b) (eqb a (mirror_rank s m b))
unfolding digits
digits-ends s m n a b u h = rw (get_or_at u b [] 0 n h, take_at u (b ∷ []) n h)

pub differing_pair-ends : (s : ℕ) (m : Mirror) (n a b : ℕ) (u : List ℕ) → length u ≡ n
    → differing_pair s m (suc (suc n)) (a ∷ (u ++ (b ∷ [])))
    ≡ cond (eqb a (mirror_rank s m b)) (cond (eqb (differing_pair s m n u) 0) 0 (suc (differing_pair s m n u))) 1
unfolding differing_pair
differing_pair-ends s m n a b u h = rw (get_or_at u b [] 0 n h, take_at u (b ∷ []) n h)

pub equal_pairs-ends : (s : ℕ) (m : Mirror) (n a b : ℕ) (u : List ℕ) → length u ≡ n
    → equal_pairs s m (suc (suc n)) (a ∷ (u ++ (b ∷ []))) ≡ cond (eqb a (mirror_rank s m b)) (suc (equal_pairs s m n u)) 0
unfolding equal_pairs
equal_pairs-ends s m n a b u h = rw (get_or_at u b [] 0 n h, take_at u (b ∷ []) n h)

-- ---- one word behind another, and a letter more at one end

pub mirror-append : (s : ℕ) (m : Mirror) (u v : List ℕ) → mirror s m (u ++ v) ≡ mirror s m v ++ mirror s m u
unfolding mirror
mirror-append s m u v = ap (map (mirror_rank s m)) (reverse-append u v) ∙ map-append (mirror_rank s m) (reverse v) (reverse u)

pub mirror-cons : (s : ℕ) (m : Mirror) (a : ℕ) (u : List ℕ) → mirror s m (a ∷ u) ≡ mirror s m u ++ (mirror_rank s m a ∷ [])
unfolding mirror
mirror-cons s m a u = mirror-append s m (a ∷ []) u

pub mirror-snoc : (s : ℕ) (m : Mirror) (b : ℕ) (u : List ℕ) → mirror s m (u ++ (b ∷ [])) ≡ mirror_rank s m b ∷ mirror s m u
unfolding mirror
mirror-snoc s m b u = mirror-append s m u (b ∷ [])
