-- The code of a window by its ends: of k letters at place j of a list d of ranks, with first letter l and r the last one as the mirror shows it.
-- Where l and r differ it is a sum of the pair's rank and the plain rank of the letters between or of their mirror; where they are equal it goes
-- on with the window within. From encoding's CodesByEnds.
use Rattle.std.proofs.Common.{◌≡◌, sym, ap, ◌∙◌, List, [], ◌∷◌, ◌++◌, ◌≢◌, ℕ, zero, suc, ◌+◌, ◌-◌, ◌*◌, ◌/◌, ◌^◌, ◌<◌, ◌≤◌, min, max, pow-suc, arith, length, get_or}
use native.Mathlib.Decide.{dec_le}
use lib.Arith.{digits_div, lt_of_le-ne}
use Rattle.settings.specs.Settings.{classes}
use Rattle.encoding.specs.Words.{Mirror, Ranks, mirror_rank, mirror, plain}
use Rattle.encoding.specs.Codes.{pair_rank, code}
use Rattle.encoding.specs.Needs.{palindromes}
use Rattle.encoding.proofs.ClassNumbers.{palindromes-suc, twice_classes, classes-le}
use Rattle.encoding.proofs.Ends.{plain-ends}
use Rattle.encoding.proofs.Canonical.{mirror_plain_ends, mirror_rank-lt}
use Rattle.encoding.proofs.Codes.{code_below}
use Rattle.encoding.proofs.CodesByEnds.{code_less, code_more, code_same}
use Rattle.ranks.specs.Needs.{part}
use Rattle.ranks.proofs.WordParts.{ranks_at, ranks_part, length_part, part-ends}

-- The value of a pair that differs, within equal pairs that have A values: s times the classes within are half of the words and the palindromes together.
pub pair_total : (s A B C X R x top E : ℕ) → 2 * C ≡ B + X → top ≡ A * B * s → E ≡ A * s * X
    → A * (s * C + R * B + x) ≡ (top + E) / 2 + R * (A * B) + A * x
pair_total s A B C X R x top E e f g =
    let h : 2 * (A * s * C) ≡ top + E = omega (arith, ap (λ (y : ℕ). A * s * y) e) in
    let k : (top + E) / 2 ≡ A * s * C = omega arith in
    rw k (omega arith)

-- The first digit taken off, then the last.
peeled : (s f q x g u : ℕ) → g < s → u ≡ f * q + x * s + g → (f * q ≤ u) × ((u - f * q) / s ≡ x)
peeled s f q x g u h e =
    let k : u - f * q ≡ x * s + g = omega arith in
    (omega arith, rw k (digits_div x h))

module _ (s : ℕ) (m : Mirror) (hs : 1 < s) (d : List ℕ) (hd : Ranks s d) (j : ℕ) where
  pub code_lt : (k : ℕ) → j + k ≤ length d → code s m k (part j k d) < s ^ k
  code_lt k inside = omega (arith, code_below s m hs k (part j k d) (length_part j k d inside) (ranks_part s j k d hd), classes-le s m k hs)

  module _ (n : ℕ) (inside : j + suc (suc n) ≤ length d) where
    abbrev first : ℕ
    first = get_or d j 0

    abbrev last : ℕ
    last = get_or d (j + suc n) 0

    abbrev inner : List ℕ
    inner = part (suc j) n d

    len : length inner ≡ n
    len = length_part (suc j) n d (omega arith)

    outer : part j (suc (suc n)) d ≡ first ∷ (inner ++ (last ∷ []))
    outer = part-ends j n d inside

    outer_ranks : Ranks s (first ∷ (inner ++ (last ∷ [])))
    outer_ranks = rw outer at (ranks_part s j (suc (suc n)) d hd)

    differ : (e R x : ℕ) → e ≡ palindromes s m (suc (suc n))
        → code s m (suc (suc n)) (first ∷ (inner ++ (last ∷ []))) ≡ s * classes s m n + R * s ^ n + x
        → code s m (suc (suc n)) (part j (suc (suc n)) d) ≡ (s ^ suc n + e) / 2 + R * s ^ n + x
    differ e R x g h =
        ap (code s m (suc (suc n))) outer
        ∙ h
        ∙ omega (
          arith,
          pair_total s 1 (s ^ n) (classes s m n) (palindromes s m n) R x (s ^ suc n) e (twice_classes s m n)
              (omega (arith, pow-suc s n)) (omega (arith, g, palindromes-suc s m n)),
        )

    less : (e : ℕ) → e ≡ palindromes s m (suc (suc n)) → first < mirror_rank s m last
        → code s m (suc (suc n)) (part j (suc (suc n)) d) ≡ (s ^ suc n + e) / 2 + pair_rank s first (mirror_rank s m last) * s ^ n + plain s inner
    less e g h = differ e (pair_rank s first (mirror_rank s m last)) (plain s inner) g (code_less s m hs n first last inner len outer_ranks h)

    more : (e : ℕ) → e ≡ palindromes s m (suc (suc n)) → mirror_rank s m last < first
        → code s m (suc (suc n)) (part j (suc (suc n)) d) ≡ (s ^ suc n + e) / 2 + pair_rank s (mirror_rank s m last) first * s ^ n + plain s (mirror s m inner)
    more e g h = differ e (pair_rank s (mirror_rank s m last) first) (plain s (mirror s m inner)) g (code_more s m hs n first last inner len outer_ranks h)

    same : first ≡ mirror_rank s m last → code s m (suc (suc n)) (part j (suc (suc n)) d) ≡ s * code s m n inner + first
    same e = ap (code s m (suc (suc n))) outer ∙ code_same s m hs n first last inner len outer_ranks e

    forward_ends : plain s (part j (suc (suc n)) d) ≡ first * s ^ suc n + plain s inner * s + last
    forward_ends = ap (plain s) outer ∙ plain-ends s n first last inner len

    back_ends : plain s (mirror s m (part j (suc (suc n)) d)) ≡ mirror_rank s m last * s ^ suc n + plain s (mirror s m inner) * s + mirror_rank s m first
    back_ends = ap (λ (w : List ℕ). plain s (mirror s m w)) outer ∙ mirror_plain_ends s m n first last inner len outer_ranks

-- ---- the same by the number k of letters, as the code has it

module _ (s : ℕ) (m : Mirror) (hs : 1 < s) (d : List ℕ) (hd : Ranks s d) (j : ℕ) where
  pub differ_is : (k i u v w e R : ℕ) → 2 ≤ k → j + k ≤ length d → i ≡ j + k - 1
      → u ≡ plain s (part (suc j) (k - 2) d)
      → v ≡ plain s (mirror s m (part (suc j) (k - 2) d))
      → e ≡ palindromes s m k
      → get_or d j 0 ≢ mirror_rank s m (get_or d i 0)
      → (get_or d j 0 < mirror_rank s m (get_or d i 0) → w ≡ u)
      → (mirror_rank s m (get_or d i 0) ≤ get_or d j 0 → w ≡ v)
      → R ≡ pair_rank s (min (get_or d j 0) (mirror_rank s m (get_or d i 0))) (max (get_or d j 0) (mirror_rank s m (get_or d i 0)))
      → (s ^ (k - 1) + e) / 2 + R * s ^ (k - 2) + w ≡ code s m k (part j k d)
  differ_is zero i u v w e R h inside at eu ev ee ne wu wv e_r = absurd (omega arith)
  differ_is (suc zero) i u v w e R h inside at eu ev ee ne wu wv e_r = absurd (omega arith)
  differ_is (suc (suc n)) i u v w e R h inside at eu ev ee ne wu wv e_r =
      let i-is : i ≡ j + suc n = omega arith in
      let k1 : suc (suc n) - 1 ≡ suc n = omega arith in
      let k2 : suc (suc n) - 2 ≡ n = omega arith in
      rw (k1, k2)
      (elim (dec_le (suc (get_or d j 0)) (mirror_rank s m (get_or d i 0))) as (λ _.
      (s ^ suc n + e) / 2 + R * s ^ n + w ≡ code s m (suc (suc n)) (part j (suc (suc n)) d)) [
        | yes p ↦
            let a : min (get_or d j 0) (mirror_rank s m (get_or d i 0)) ≡ get_or d j 0 = omega arith in
            let b : max (get_or d j 0) (mirror_rank s m (get_or d i 0)) ≡ mirror_rank s m (get_or d i 0) = omega arith in
            sym (less s m hs d hd j n inside e ee (rw i-is at p) ∙ rw (wu p, eu, k2, e_r, a, b, i-is))
        | no np ↦
            let q : mirror_rank s m (get_or d i 0) < get_or d j 0 = lt_of_le-ne (omega arith) (λ same. ne (sym same)) in
            let a : min (get_or d j 0) (mirror_rank s m (get_or d i 0)) ≡ mirror_rank s m (get_or d i 0) = omega arith in
            let b : max (get_or d j 0) (mirror_rank s m (get_or d i 0)) ≡ get_or d j 0 = omega arith in
            sym (more s m hs d hd j n inside e ee (rw i-is at q) ∙ rw (wv (omega arith), ev, k2, e_r, a, b, i-is))
      ])

  pub same_is : (k i : ℕ) → 2 ≤ k → j + k ≤ length d → i ≡ j + k - 1 → get_or d j 0 ≡ mirror_rank s m (get_or d i 0)
      → code s m k (part j k d) ≡ s * code s m (k - 2) (part (suc j) (k - 2) d) + get_or d j 0
  same_is zero i h inside at e = absurd (omega arith)
  same_is (suc zero) i h inside at e = absurd (omega arith)
  same_is (suc (suc n)) i h inside at e =
      let i-is : i ≡ j + suc n = omega arith in
      let k2 : suc (suc n) - 2 ≡ n = omega arith in
      rw k2 (same s m hs d hd j n inside (rw i-is at e))

  -- The inner window's plain ranks, from those of this one.
  pub forward_is : (k u : ℕ) → 4 ≤ k → j + k ≤ length d → u ≡ plain s (part (suc j) (k - 2) d)
      → (get_or d (suc j) 0 * s ^ (k - 3) ≤ u) × ((u - get_or d (suc j) 0 * s ^ (k - 3)) / s ≡ plain s (part (suc (suc j)) (k - 2 - 2) d))
  forward_is k u h inside e =
      let k2 : k - 2 ≡ suc (suc (k - 4)) = omega arith in
      let k3 : k - 3 ≡ suc (k - 4) = omega arith in
      let k4 : k - 2 - 2 ≡ k - 4 = omega arith in
      let at : suc j + suc (suc (k - 4)) ≤ length d = omega arith in
      rw (k4, k3)
      (peeled s (get_or d (suc j) 0) (s ^ suc (k - 4)) (plain s (part (suc (suc j)) (k - 4) d)) (get_or d (suc j + suc (k - 4)) 0) u
      (ranks_at s d (suc j + suc (k - 4)) hd (omega arith))
      ((rw k2 at e) ∙ forward_ends s m hs d hd (suc j) (k - 4) at))

  pub back_is : (k v i : ℕ) → 4 ≤ k → j + k ≤ length d → i ≡ j + k - 2 → v ≡ plain s (mirror s m (part (suc j) (k - 2) d))
      → (mirror_rank s m (get_or d i 0) * s ^ (k - 3) ≤ v)
      × ((v - mirror_rank s m (get_or d i 0) * s ^ (k - 3)) / s ≡ plain s (mirror s m (part (suc (suc j)) (k - 2 - 2) d)))
  back_is k v i h inside i-at e =
      let k2 : k - 2 ≡ suc (suc (k - 4)) = omega arith in
      let k3 : k - 3 ≡ suc (k - 4) = omega arith in
      let k4 : k - 2 - 2 ≡ k - 4 = omega arith in
      let at : suc j + suc (suc (k - 4)) ≤ length d = omega arith in
      let i-is : i ≡ suc j + suc (k - 4) = omega arith in
      rw (k4, k3, i-is)
      (peeled s (mirror_rank s m (get_or d (suc j + suc (k - 4)) 0)) (s ^ suc (k - 4)) (plain s (mirror s m (part (suc (suc j)) (k - 4) d)))
      (mirror_rank s m (get_or d (suc j) 0)) v
      (mirror_rank-lt s m (get_or d (suc j) 0) (ranks_at s d (suc j) hd (omega arith)))
      ((rw k2 at e) ∙ back_ends s m hs d hd (suc j) (k - 4) at))

-- The number of palindromes of the inner window's length.
pub palindromes-within : (s : ℕ) (m : Mirror) (k e : ℕ) → 1 < s → 2 ≤ k → e ≡ palindromes s m k → e / s ≡ palindromes s m (k - 2)
palindromes-within s m zero e hs h g = absurd (omega arith)
palindromes-within s m (suc zero) e hs h g = absurd (omega arith)
palindromes-within s m (suc (suc n)) e hs h g =
    let k2 : suc (suc n) - 2 ≡ n = omega arith in
    let q : e ≡ palindromes s m n * s + 0 = omega (arith, g, palindromes-suc s m n) in
    rw (k2, q) (digits_div (palindromes s m n) (omega arith))
