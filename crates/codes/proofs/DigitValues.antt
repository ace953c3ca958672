-- The value of the digits of a canonical word, as `digits_value` and `differing_value` work it out, and that it fits.
use Rattle.std.proofs.Common.{◌≡◌, ap, subst, ◌∙◌, sym, refl, cond, List, ◌∷◌, ◌++◌, [], ◌-◌, ℕ, ◌<◌, ◌≤◌, ◌*◌, ◌/◌, ◌+◌, ◌%◌, ◌^◌, suc, min, mul-le-mul_right, div-add-mod', zero-add, arith, eq-eqb, ne_eqb, eqb, length, take, drop, get_or, take_all}
use mathlib.Core.Path.{subst⁻¹}
use Rattle.laws.proofs.Powers.{pair_count, square, pow-two_more}
use Rattle.settings.proofs.Powers.{capped}
use Rattle.encoding.specs.Codes.{pair_rank, digits}
use Rattle.codes.specs.Needs.{FitDiffering, FitCanonical}
use Rattle.encoding.specs.Words.{plain, Mirror, mirror_rank, Ranks}
use Rattle.encoding.proofs.Bounds.{value_differ_lt, value_lt}
use Rattle.encoding.proofs.Canonical.{IsCanonical, canonical_inner, canonical_first, mirror_rank-lt}
use Rattle.encoding.proofs.Ends.{plain-one}
use Rattle.encoding.proofs.Pairs.{below_pairs}
use Rattle.ranks.proofs.WordParts.{inner-plain-lt, ranks_at, length_part, part-ends, value_part, inner_of}

pub high_is : (s R : ℕ) → (R / s + 1) * s + R % s ≡ R + s
high_is s R = omega (arith, div-add-mod' R s)

pair_value_small : (s R : ℕ) → 1 < s → R < pair_count s → (n x : ℕ) → x < s ^ n → s ^ suc (suc n) ≤ 2 ^ 62 → (R + s) * s ^ n + x < 2 ^ 62
pair_value_small s R hs h_r n x hx g =
    omega (arith, value_differ_lt s R (s ^ n) x hs h_r hx, pow-two_more s n)

-- What `differing_value` works out from the rank R of its pair: its two digits fit, and the value fits and is the one asked.
module _ (s : ℕ) (w : List ℕ) (l r : ℕ) (d : FitDiffering s w l r) (R : ℕ) (e : R ≡ pair_rank s l r) where
  low : R < pair_count s
  low = subst⁻¹ (λ (y : ℕ). y < pair_count s) e (below_pairs s l r d.less d.rank)

  pub high_small : R + s ≤ 256
  high_small = omega (arith, low, square s, mul-le-mul_right s d.few)

  module _ (p x : ℕ) (f : p ≡ min (s ^ (length w - 2)) 4611686018427387905) (g : x ≡ plain s (take (length w - 1 - 1) (drop 1 w))) where
    p_is : p ≡ s ^ (length w - 2)
    p_is = capped s (length w) (length w - 2) p d.word.two (omega arith) d.word.small f

    x_is : x ≡ plain s (take (length w - 2) (drop 1 w))
    x_is = let h : length w - 1 - 1 ≡ length w - 2 = omega arith in g ∙ ap (λ (n : ℕ). plain s (take n (drop 1 w))) h

    pub differing_is : ((R / s + 1) * s + R % s) * p + x ≡ (pair_rank s l r + s) * s ^ (length w - 2) + plain s (take (length w - 2) (drop 1 w))
    differing_is = rw (high_is s R, p_is, x_is, e)

    pub differing_small : ((R / s + 1) * s + R % s) * p + x < 2 ^ 62
    differing_small =
        let h : length w ≡ suc (suc (length w - 2)) = omega (arith, d.long) in
        let small : s ^ suc (suc (length w - 2)) ≤ 2 ^ 62 = subst (λ (n : ℕ). s ^ n ≤ 2 ^ 62) h d.word.small in
        let inner-small = inner-plain-lt s w d.word.ranks (length w - 2) (omega (arith, d.long)) in
        rw (differing_is, ← e)
        (pair_value_small s R d.word.two low (length w - 2) (plain s (take (length w - 2) (drop 1 w))) inner-small small)

-- ---- `digits_value`

pub digits-none : (s : ℕ) (m : Mirror) (w : List ℕ) → length w < 1 → 0 ≡ plain s (digits s m (length w) w)
unfolding digits plain
digits-none s m w h = let e : length w ≡ 0 = omega arith in rw e

pub digits-one : (s : ℕ) (m : Mirror) (w : List ℕ) → 1 ≤ length w → length w < 2 → mirror_rank s m (get_or w 0 0) ≡ plain s (digits s m (length w) w)
unfolding digits
digits-one s m w h g = let e : length w ≡ 1 = omega arith in rw e (sym (plain-one s (mirror_rank s m (get_or w 0 0))))

pub last_rank_lt : (s : ℕ) (w : List ℕ) → Ranks s w → 2 ≤ length w → get_or w (length w - 1) 0 < s
last_rank_lt s w h g = ranks_at s w (length w - 1) h (omega arith)

-- A canonical word of two letters or more.
module _ {s : ℕ} {m : Mirror} {w : List ℕ} (F : FitCanonical s m w) (two : 2 ≤ length w) where
  in_len : length (take (length w - 1 - 1) (drop 1 w)) ≡ length w - 1 - 1
  in_len = length_part 1 (length w - 1 - 1) w (omega arith)

  long : length w ≡ suc (suc (length w - 1 - 1))
  long = omega arith

  last : suc (length w - 1 - 1) ≡ length w - 1
  last = omega arith

  last_at : get_or w (suc (length w - 1 - 1)) 0 ≡ get_or w (length w - 1) 0
  last_at = ap (λ (i : ℕ). get_or w i 0) last

  all : take (suc (suc (length w - 1 - 1))) w ≡ w
  all = take_all (suc (suc (length w - 1 - 1))) w (omega arith)

  whole : w ≡ get_or w 0 0 ∷ (take (length w - 1 - 1) (drop 1 w) ++ (get_or w (length w - 1) 0 ∷ []))
  whole = sym all ∙ (rw (zero-add (suc (length w - 1 - 1)), last_at) at (part-ends 0 (length w - 1 - 1) w (omega arith)))

  step : plain s (digits s m (length w) w)
      ≡ cond (eqb (get_or w 0 0) (mirror_rank s m (get_or w (length w - 1) 0)))
      (plain s (digits s m (length w - 1 - 1) (take (length w - 1 - 1) (drop 1 w))) * s + mirror_rank s m (get_or w (length w - 1) 0))
      ((pair_rank s (get_or w 0 0) (mirror_rank s m (get_or w (length w - 1) 0)) + s) * s ^ (length w - 1 - 1) + plain s (take (length w - 1 - 1) (drop 1 w)))
  step =
      ap (λ (n : ℕ). plain s (digits s m n w)) long
      ∙ ap (λ (l : List ℕ). plain s (digits s m (suc (suc (length w - 1 - 1))) l)) (sym all)
      ∙ (rw (zero-add (suc (length w - 1 - 1)), last_at) at (value_part s m 0 (length w - 1 - 1) w (omega arith)))

  whole_ranks : Ranks s (get_or w 0 0 ∷ (take (length w - 1 - 1) (drop 1 w) ++ (get_or w (length w - 1) 0 ∷ [])))
  whole_ranks = subst (Ranks s) whole F.word.ranks

  whole_least : IsCanonical s m (get_or w 0 0 ∷ (take (length w - 1 - 1) (drop 1 w) ++ (get_or w (length w - 1) 0 ∷ [])))
  whole_least = subst (IsCanonical s m) whole F.least

  pub inner_canonical : get_or w 0 0 ≡ mirror_rank s m (get_or w (length w - 1) 0) → FitCanonical s m (take (length w - 1 - 1) (drop 1 w))
  inner_canonical e =
      record {
        word = inner_of s w F.word.two F.word.ranks F.word.small (length w - 1 - 1) (omega arith);
        few = F.few;
        least =
            canonical_inner s m (length w - 1 - 1) (get_or w 0 0) (get_or w (length w - 1) 0) (take (length w - 1 - 1) (drop 1 w)) in_len whole_ranks
            whole_least e;
      }

  pub shorter : length (take (length w - 1 - 1) (drop 1 w)) < length w
  shorter = omega (arith, in_len)

  pub value_equal : get_or w 0 0 ≡ mirror_rank s m (get_or w (length w - 1) 0) → (v : ℕ)
      → v ≡ plain s (digits s m (length (take (length w - 1 - 1) (drop 1 w))) (take (length w - 1 - 1) (drop 1 w)))
      → v * s + mirror_rank s m (get_or w (length w - 1) 0) ≡ plain s (digits s m (length w) w)
  value_equal e v f =
      let g : v ≡ plain s (digits s m (length w - 1 - 1) (take (length w - 1 - 1) (drop 1 w)))
      = f ∙ ap (λ (n : ℕ). plain s (digits s m n (take (length w - 1 - 1) (drop 1 w)))) in_len in
      sym (step ∙ rw (eq-eqb (get_or w 0 0) (mirror_rank s m (get_or w (length w - 1) 0)) e, g))

  pub value_small : plain s (digits s m (length w) w) < 2 ^ 62
  value_small = omega (arith, value_lt s m F.word.two (length w) w refl F.word.ranks F.least, F.word.small)

  differs : (get_or w 0 0 ≡ mirror_rank s m (get_or w (length w - 1) 0) → ⊥) → FitDiffering s w (get_or w 0 0) (mirror_rank s m (get_or w (length w - 1) 0))
  differs d =
      let le : get_or w 0 0 ≤ mirror_rank s m (get_or w (length w - 1) 0)
      = canonical_first s m (length w - 1 - 1) (get_or w 0 0) (get_or w (length w - 1) 0) (take (length w - 1 - 1) (drop 1 w)) in_len whole_ranks
      whole_least in
      record {
        word = F.word;
        few = F.few;
        long = omega arith;
        less = omega arith;
        rank = mirror_rank-lt s m (get_or w (length w - 1) 0) (last_rank_lt s w F.word.ranks two);
      }

  value_differ : (get_or w 0 0 ≡ mirror_rank s m (get_or w (length w - 1) 0) → ⊥)
      → (pair_rank s (get_or w 0 0) (mirror_rank s m (get_or w (length w - 1) 0)) + s) * s ^ (length w - 2) + plain s (take (length w - 2) (drop 1 w))
      ≡ plain s (digits s m (length w) w)
  value_differ d =
      let e : length w - 2 ≡ length w - 1 - 1 = omega arith in
      sym (step ∙ rw (ne_eqb (get_or w 0 0) (mirror_rank s m (get_or w (length w - 1) 0)) d, e))

  -- The same of the last letter as `mirror_rank` gives it, and the value as `differing_value` does.
  module _ (r : ℕ) (last-is : r ≡ mirror_rank s m (get_or w (length w - 1) 0)) (ne : get_or w 0 0 ≡ r → ⊥) where
    ne_mirror : get_or w 0 0 ≡ mirror_rank s m (get_or w (length w - 1) 0) → ⊥
    ne_mirror e = ne (e ∙ sym last-is)

    pub fit_differing : FitDiffering s w (get_or w 0 0) r
    fit_differing = rw last-is (differs ne_mirror)

    pub differing_answer : (v : ℕ) → v ≡ (pair_rank s (get_or w 0 0) r + s) * s ^ (length w - 2) + plain s (take (length w - 2) (drop 1 w))
        → v ≡ plain s (digits s m (length w) w)
    differing_answer v e = e ∙ rw last-is (value_differ ne_mirror)
