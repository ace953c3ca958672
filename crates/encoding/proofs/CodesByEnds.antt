-- The code of any word, canonical or not, from its ends: a ∷ (u ++ (b ∷ [])) with r the last letter as the mirror shows it. Where a = r, s times the
-- code within plus a; where a < r or a > r, what the pair and the plain rank of u, or of its mirror, give. No whole words are compared.
use Rattle.std.proofs.Common.{◌≡◌, refl, sym, ap, ◌∙◌, List, [], ◌∷◌, ◌++◌, ℕ, suc, ◌+◌, ◌-◌, ◌*◌, ◌/◌, ◌^◌, ◌<◌, ◌≤◌, min, arith, length}
use native.Mathlib.Decide.{dec_le}
use Rattle.settings.specs.Settings.{classes}
use Rattle.encoding.specs.Words.{Mirror, Reversal, Complement, Ranks, mirror_rank, mirror, plain}
use Rattle.encoding.specs.Codes.{pair_rank, code}
use Rattle.encoding.specs.WordsOfCodes.{middle_of_code}
use Rattle.encoding.proofs.Ends.{length-ends, mirror-ends, length-mirror, Ranks-ends}
use Rattle.encoding.proofs.Canonical.{IsCanonical, mirror_rank-lt, mirror_rank-twice, Ranks-mirror, mirror-mirror, first_lt, last_lt, inner_ranks, differ_canonical, same_canonical, nil-canonical, one_canonical}
use Rattle.encoding.proofs.Recursion.{code_rec, code_is, code_rec_same, code_rec_differ}
use Rattle.encoding.proofs.Codes.{canonical-low, code_mirror}

module _ (s : ℕ) (m : Mirror) (hs : 1 < s) where
  -- The code of a canonical word.
  code_low : (n : ℕ) (w : List ℕ) → length w ≡ n → Ranks s w → IsCanonical s m w → code s m n w ≡ code_rec s m n w
  unfolding code
  code_low n w l h g = rw (canonical-low s m w g) (code_is s m hs n w l h g)

  pub code_none : code s m 0 [] ≡ 0
  unfolding code_rec
  code_none = code_low 0 [] refl tt (nil-canonical s m)

  one_low : (a : ℕ) → a < s → a ≤ mirror_rank s m a → code s m 1 (a ∷ []) ≡ middle_of_code s m a
  unfolding code_rec
  one_low a h g = code_low 1 (a ∷ []) refl (h, tt) (one_canonical s m a g)

  module _ (n a b : ℕ) (u : List ℕ) (l : length u ≡ n) (h : Ranks s (a ∷ (u ++ (b ∷ [])))) where
    -- Of the word's mirror, by its ends.
    turned_ranks : Ranks s (mirror_rank s m b ∷ (mirror s m u ++ (mirror_rank s m a ∷ [])))
    turned_ranks =
        let first = mirror_rank-lt s m a (first_lt s m n a b u l h) in
        let last = mirror_rank-lt s m b (last_lt s m n a b u l h) in
        let inner = Ranks-mirror s m n u l (inner_ranks s m n a b u l h) in
        Ranks-ends s (mirror_rank s m b) (mirror_rank s m a) (mirror s m u) last first inner

    turned_code : code s m (suc (suc n)) (mirror_rank s m b ∷ (mirror s m u ++ (mirror_rank s m a ∷ []))) ≡ code s m (suc (suc n)) (a ∷ (u ++ (b ∷ [])))
    turned_code =
        ap (code s m (suc (suc n))) (sym (mirror-ends s m a b u))
        ∙ code_mirror s m hs (suc (suc n)) (a ∷ (u ++ (b ∷ []))) (length-ends n a b u l) h

  -- A first letter below the last as the mirror shows it: behind all words of equal outer letters, by the pair, then by the plain rank of the inner letters.
  pub code_less : (n a b : ℕ) (u : List ℕ) (l : length u ≡ n) (h : Ranks s (a ∷ (u ++ (b ∷ [])))) → a < mirror_rank s m b
      → code s m (suc (suc n)) (a ∷ (u ++ (b ∷ []))) ≡ s * classes s m n + pair_rank s a (mirror_rank s m b) * s ^ n + plain s u
  code_less n a b u l h g =
      code_low (suc (suc n)) (a ∷ (u ++ (b ∷ []))) (length-ends n a b u l) h (differ_canonical s m n a b u l h g)
      ∙ code_rec_differ s m n a b u l (λ e. omega arith)

  -- A first letter above it: the same of the word's mirror, so the pair turned round and the plain rank of the inner letters' mirror.
  pub code_more : (n a b : ℕ) (u : List ℕ) (l : length u ≡ n) (h : Ranks s (a ∷ (u ++ (b ∷ [])))) → mirror_rank s m b < a
      → code s m (suc (suc n)) (a ∷ (u ++ (b ∷ []))) ≡ s * classes s m n + pair_rank s (mirror_rank s m b) a * s ^ n + plain s (mirror s m u)
  code_more n a b u l h g =
      let tt-a : mirror_rank s m (mirror_rank s m a) ≡ a = mirror_rank-twice s m a (first_lt s m n a b u l h) in
      sym (turned_code n a b u l h)
      ∙ code_less n (mirror_rank s m b) (mirror_rank s m a) (mirror s m u) (length-mirror s m u ∙ l) (turned_ranks n a b u l h) (rw tt-a g)
      ∙ rw tt-a

  same_low : (n a b : ℕ) (u : List ℕ) (l : length u ≡ n) (h : Ranks s (a ∷ (u ++ (b ∷ [])))) → a ≡ mirror_rank s m b → IsCanonical s m u
      → code s m (suc (suc n)) (a ∷ (u ++ (b ∷ []))) ≡ s * code s m n u + a
  same_low n a b u l h e g =
      code_low (suc (suc n)) (a ∷ (u ++ (b ∷ []))) (length-ends n a b u l) h (same_canonical s m n a b u l h e g)
      ∙ code_rec_same s m n a b u l e
      ∙ rw (code_low n u l (inner_ranks s m n a b u l h) g, e)

  -- Equal outer letters: s times the code within, plus that letter.
  pub code_same : (n a b : ℕ) (u : List ℕ) (l : length u ≡ n) (h : Ranks s (a ∷ (u ++ (b ∷ [])))) → a ≡ mirror_rank s m b
      → code s m (suc (suc n)) (a ∷ (u ++ (b ∷ []))) ≡ s * code s m n u + a
  code_same n a b u l h e =
      elim (dec_le (plain s u) (plain s (mirror s m u))) as (λ _. code s m (suc (suc n)) (a ∷ (u ++ (b ∷ []))) ≡ s * code s m n u + a) [
        | yes p ↦ same_low n a b u l h e p
        | no np ↦
            let hu = inner_ranks s m n a b u l h in
            let tt-a : mirror_rank s m (mirror_rank s m a) ≡ a = mirror_rank-twice s m a (first_lt s m n a b u l h) in
            sym (turned_code n a b u l h)
            ∙ same_low n (mirror_rank s m b) (mirror_rank s m a) (mirror s m u) (length-mirror s m u ∙ l) (turned_ranks n a b u l h)
            (sym e ∙ sym tt-a) (rw (mirror-mirror s m n u l hu) (omega arith))
            ∙ rw (code_mirror s m hs n u l hu, sym e)
      ]

-- The code of one letter: under complement the lower of the letter and its mirror counts, from the middle down.
unfoldable pub middle_code : ℕ → Mirror → ℕ → ℕ
middle_code s Reversal a = a
middle_code s Complement a = (s - 1) / 2 - min a (s - 1 - a)

other_one : (s : ℕ) (hs : 1 < s) (a : ℕ) → a < s → s - 1 - a < a
    → code s Complement 1 (mirror s Complement (a ∷ [])) ≡ (s - 1) / 2 - (s - 1 - a)
unfolding mirror mirror_rank middle_of_code
other_one s hs a h g = one_low s Complement hs (s - 1 - a) (omega arith) (omega arith)

-- The code of a word of one letter is its `middle_code`.
pub code_one : (s : ℕ) (m : Mirror) (hs : 1 < s) (a : ℕ) → a < s → code s m 1 (a ∷ []) ≡ middle_code s m a
unfolding middle_code middle_of_code mirror_rank
code_one s Reversal hs a h = one_low s Reversal hs a h (omega arith)
code_one s Complement hs a h =
    elim (dec_le a (s - 1 - a)) as (λ _. code s Complement 1 (a ∷ []) ≡ (s - 1) / 2 - min a (s - 1 - a)) [
      | yes p ↦ one_low s Complement hs a h p ∙ omega arith
      | no np ↦ sym (code_mirror s Complement hs 1 (a ∷ []) refl (h, tt)) ∙ other_one s hs a h (omega arith) ∙ omega arith
    ]
