-- Parts of a word of ranks: one rank, a part and its ends, the digits of a part by its ends, and the word within.
use Rattle.std.proofs.Common.{ap, ◌≡◌, ◌∙◌, cond, Bool, true, false, List, [], ◌∷◌, ◌++◌, ℕ, ◌<◌, suc, ◌+◌, ◌≤◌, ◌/◌, ◌%◌, ◌*◌, ◌^◌, pow-suc, arith, eqb, length, get_or, take, drop, length-drop, length-take-le, drop-cons, take-suc, get_or-drop}
use Rattle.laws.proofs.Each.{each_at}
use Rattle.laws.proofs.Powers.{pow-fits}
use Rattle.encoding.specs.Codes.{digits, pair_rank}
use Rattle.ranks.specs.Needs.{part, FitWord}
use Rattle.encoding.specs.Words.{Ranks, Mirror, mirror_rank, plain}
use Rattle.encoding.proofs.Canonical.{plain-below}
use Rattle.encoding.proofs.Ends.{ranks_take, ranks_drop, end_digits, digits-ends, plain-snoc}
use Rattle.encoding.proofs.Recursion.{pair_value}

pub ranks_at : (s : ℕ) (w : List ℕ) (i : ℕ) → Ranks s w → i < length w → get_or w i 0 < s
ranks_at s w i h g = each_at (λ (a : ℕ). a < s) w i h g

pub ranks_part : (s i n : ℕ) (w : List ℕ) → Ranks s w → Ranks s (part i n w)
ranks_part s i n w h = ranks_take s n (drop i w) (ranks_drop s i w h)

pub length_part : (i n : ℕ) (w : List ℕ) → i + n ≤ length w → length (part i n w) ≡ n
length_part i n w h = length-take-le n (drop i w) (omega (arith, length-drop i w))

-- ---- a letter more at one end, and at both

pub part-cons : (i n : ℕ) (w : List ℕ) → i < length w → part i (suc n) w ≡ get_or w i 0 ∷ part (suc i) n w
part-cons i n w h = ap (take (suc n)) (drop-cons w i 0 h)

pub part-snoc : (i n : ℕ) (w : List ℕ) → i + n < length w → part i (suc n) w ≡ part i n w ++ (get_or w (i + n) 0 ∷ [])
part-snoc i n w h = take-suc (drop i w) n 0 (omega (arith, length-drop i w)) ∙ rw (get_or-drop i w n 0)

pub part-ends : (i n : ℕ) (w : List ℕ) → i + suc (suc n) ≤ length w
    → part i (suc (suc n)) w ≡ get_or w i 0 ∷ (part (suc i) n w ++ (get_or w (i + suc n) 0 ∷ []))
part-ends i n w h =
    let e : suc i + n ≡ i + suc n = omega arith in
    part-cons i (suc n) w (omega arith) ∙ ap (λ (l : List ℕ). get_or w i 0 ∷ l) (part-snoc (suc i) n w (omega arith) ∙ rw e)

digits-part : (s : ℕ) (m : Mirror) (i n : ℕ) (w : List ℕ) → i + suc (suc n) ≤ length w
    → digits s m (suc (suc n)) (part i (suc (suc n)) w)
    ≡ end_digits s m n (get_or w i 0) (part (suc i) n w) (mirror_rank s m (get_or w (i + suc n) 0))
    (eqb (get_or w i 0) (mirror_rank s m (get_or w (i + suc n) 0)))
digits-part s m i n w h =
    ap (digits s m (suc (suc n))) (part-ends i n w h)
    ∙ digits-ends s m n (get_or w i 0) (get_or w (i + suc n) 0) (part (suc i) n w) (length_part (suc i) n w (omega arith))

-- The value of the two digits of a pair, as the code sums it up.
two_digits : (s R p q x : ℕ) → q ≡ p * s → (R / s + 1) * q + (R % s * p + x) ≡ (R + s) * p + x
two_digits s R p q x e = pair_value s R p q x e ∙ omega (arith, e)

-- The value of the digits of a part, from the value of those of the part within.
pub value_part : (s : ℕ) (m : Mirror) (i n : ℕ) (w : List ℕ) → i + suc (suc n) ≤ length w
    → plain s (digits s m (suc (suc n)) (part i (suc (suc n)) w))
    ≡ cond (eqb (get_or w i 0) (mirror_rank s m (get_or w (i + suc n) 0)))
    (plain s (digits s m n (part (suc i) n w)) * s + mirror_rank s m (get_or w (i + suc n) 0))
    ((pair_rank s (get_or w i 0) (mirror_rank s m (get_or w (i + suc n) 0)) + s) * s ^ n + plain s (part (suc i) n w))
unfolding plain
value_part s m i n w h =
    ap (plain s) (digits-part s m i n w h)
    ∙ go (eqb (get_or w i 0) (mirror_rank s m (get_or w (i + suc n) 0))) (mirror_rank s m (get_or w (i + suc n) 0))
  where
    go : (t : Bool) (r : ℕ)
        → plain s (end_digits s m n (get_or w i 0) (part (suc i) n w) r t)
        ≡ cond t (plain s (digits s m n (part (suc i) n w)) * s + r) ((pair_rank s (get_or w i 0) r + s) * s ^ n + plain s (part (suc i) n w))
    go true r = omega (arith, plain-snoc s r (digits s m n (part (suc i) n w)))
    go false r =
        rw (length_part (suc i) n w (omega arith))
        (two_digits s (pair_rank s (get_or w i 0) r) (s ^ n) (s ^ suc n) (plain s (part (suc i) n w)) (pow-suc s n))

-- ---- the word within

pub inner_of : (s : ℕ) (w : List ℕ) → 1 < s → Ranks s w → s ^ length w ≤ 2 ^ 62 → (n : ℕ) → 1 + n ≤ length w → FitWord s (take n (drop 1 w))
inner_of s w hs h g n f =
    record {
      two = hs;
      ranks = ranks_part s 1 n w h;
      small = rw (length_part 1 n w f) (pow-fits s n (length w) hs (omega arith) g);
    }

pub inner-plain-lt : (s : ℕ) (w : List ℕ) → Ranks s w → (n : ℕ) → 1 + n ≤ length w → plain s (take n (drop 1 w)) < s ^ n
inner-plain-lt s w h n f = plain-below s n (take n (drop 1 w)) (length_part 1 n w f) (ranks_part s 1 n w h)
