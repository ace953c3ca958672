-- Palindromes have the lowest codes: a word of n letters is a palindrome exactly when its code is below the number of palindromes. First for
-- canonical words, by induction from both ends; then for any word, whose canonical word is a palindrome with it.
use Rattle.std.proofs.Common.{◌≡◌, refl, sym, ap, ◌∙◌, ⊎_elim, ◌↔◌, List, [], ◌∷◌, ◌++◌, ℕ, suc, ◌-◌, ◌/◌, ◌<◌, ◌≤◌, mul-le-mul_left, arith, length, take, take_at}
use native.Mathlib.Nat.{pow-zero, lt_of_mul-lt-mul_left}
use native.Mathlib.Decide.{ℕ_discrete}
use lib.Arith.{digits_lt}
use Rattle.settings.specs.Settings.{half_up, is_odd}
use Rattle.laws.proofs.Powers.{pow-one}
use Rattle.encoding.specs.Words.{Mirror, Reversal, Complement, Ranks, mirror_rank, mirror, canonical, Palindrome}
use Rattle.encoding.specs.Codes.{code}
use Rattle.encoding.specs.WordsOfCodes.{middle_of_code}
use Rattle.encoding.specs.Needs.{palindromes}
use Rattle.encoding.proofs.ClassNumbers.{palindromes-suc, palindromes-one, classes-palindromes}
use Rattle.encoding.proofs.Ends.{ends, mirror-ends, length-mirror}
use Rattle.encoding.proofs.Canonical.{IsCanonical, mirror_rank-lt, mirror_rank-twice, mirror-mirror, last_lt, inner_ranks, canonical_inner, canonical-one}
use Rattle.encoding.proofs.Recursion.{code_rec, code_is, code_rec_same, code_rec_differ}
use Rattle.encoding.proofs.Codes.{is_canonical}

-- Two equal lists of one length are equal without their last letters.
tails_equal : (n b d : ℕ) (u v : List ℕ) → length u ≡ n → length v ≡ n → u ++ (b ∷ []) ≡ v ++ (d ∷ []) → u ≡ v
tails_equal n b d u v lu lv e = sym (take_at u (b ∷ []) n lu) ∙ ap (take n) e ∙ take_at v (d ∷ []) n lv

-- ---- canonical words

module _ (s : ℕ) (m : Mirror) (hs : 1 < s) where
  abbrev Lowest : ℕ → List ℕ → Type 0
  Lowest n w = Ranks s w → IsCanonical s m w → (Palindrome s m w ↔ (code_rec s m n w < palindromes s m n))

  module _ (n a b : ℕ) (u : List ℕ) (l : length u ≡ n) (h : Ranks s (a ∷ (u ++ (b ∷ [])))) where
    inner_palindrome : Palindrome s m (a ∷ (u ++ (b ∷ []))) → Palindrome s m u
    inner_palindrome p =
        let e : mirror_rank s m b ∷ (mirror s m u ++ (mirror_rank s m a ∷ [])) ≡ a ∷ (u ++ (b ∷ [])) = sym (mirror-ends s m a b u) ∙ p in
        let f : mirror s m u ++ (mirror_rank s m a ∷ []) ≡ u ++ (b ∷ []) = cc in
        tails_equal n (mirror_rank s m a) b (mirror s m u) u (length-mirror s m u ∙ l) l f

    outer_equal : Palindrome s m (a ∷ (u ++ (b ∷ []))) → a ≡ mirror_rank s m b
    outer_equal p =
        let e : mirror_rank s m b ∷ (mirror s m u ++ (mirror_rank s m a ∷ [])) ≡ a ∷ (u ++ (b ∷ [])) = sym (mirror-ends s m a b u) ∙ p in
        cc

    outer_palindrome : a ≡ mirror_rank s m b → Palindrome s m u → Palindrome s m (a ∷ (u ++ (b ∷ [])))
    outer_palindrome e p =
        let f : mirror_rank s m a ≡ b = ap (mirror_rank s m) e ∙ mirror_rank-twice s m b (last_lt s m n a b u l h) in
        mirror-ends s m a b u ∙ rw (f, p, sym e)

    same_lowest : a ≡ mirror_rank s m b → (Palindrome s m u ↔ (code_rec s m n u < palindromes s m n))
        → Palindrome s m (a ∷ (u ++ (b ∷ []))) ↔ (code_rec s m (suc (suc n)) (a ∷ (u ++ (b ∷ []))) < palindromes s m (suc (suc n)))
    same_lowest e ih =
        let last = mirror_rank-lt s m b (last_lt s m n a b u l h) in
        rw (code_rec_same s m n a b u l e, palindromes-suc s m n) (
          λ p. omega (arith, digits_lt (ih.0 (inner_palindrome p)) last),
          λ q. outer_palindrome e (ih.1 (lt_of_mul-lt-mul_left s (omega (arith, q)))),
        )

    differ_lowest : (a ≡ mirror_rank s m b → ⊥)
        → Palindrome s m (a ∷ (u ++ (b ∷ []))) ↔ (code_rec s m (suc (suc n)) (a ∷ (u ++ (b ∷ []))) < palindromes s m (suc (suc n)))
    differ_lowest ne =
        rw (code_rec_differ s m n a b u l ne, palindromes-suc s m n) (
          λ p. absurd (ne (outer_equal p)),
          λ q. absurd (omega (arith, mul-le-mul_left s (classes-palindromes s m n hs))),
        )

  lowest_step : (n a b : ℕ) (u : List ℕ) → length u ≡ n → Lowest n u → Lowest (suc (suc n)) (a ∷ (u ++ (b ∷ [])))
  lowest_step n a b u l ih h g =
      elim (ℕ_discrete a (mirror_rank s m b)) as (λ _.
      Palindrome s m (a ∷ (u ++ (b ∷ []))) ↔ (code_rec s m (suc (suc n)) (a ∷ (u ++ (b ∷ []))) < palindromes s m (suc (suc n)))) [
        | yes e ↦ same_lowest n a b u l h e (ih (inner_ranks s m n a b u l h) (canonical_inner s m n a b u l h g e))
        | no ne ↦ differ_lowest n a b u l h ne
      ]

no_letter_lowest : (s : ℕ) (m : Mirror) → Palindrome s m [] ↔ (code_rec s m 0 [] < palindromes s m 0)
unfolding mirror code_rec palindromes is_odd half_up
no_letter_lowest s Reversal = (λ p. omega (arith, pow-zero s), λ q. refl)
no_letter_lowest s Complement = (λ p. omega (arith, pow-zero s), λ q. refl)

-- Under complement a letter is its own mirror where it is the middle one of an odd s, and then it has the code 0.
middle_lowest : (s a : ℕ) → a < s → a ≤ s - 1 - a → (s - 1 - a ≡ a) ↔ ((s - 1) / 2 - a < palindromes s Complement 1)
middle_lowest s a h g = rw (palindromes-one s) (λ p. omega arith, λ q. omega arith)

-- One letter is a palindrome under reversal, and under complement where it is its own mirror.
one_letter_lowest : (s : ℕ) (m : Mirror) (a : ℕ) → a < s → a ≤ mirror_rank s m a → Palindrome s m (a ∷ []) ↔ (code_rec s m 1 (a ∷ []) < palindromes s m 1)
unfolding mirror mirror_rank code_rec middle_of_code palindromes half_up
one_letter_lowest s Reversal a h g = (λ p. omega (arith, pow-one s), λ q. refl)
one_letter_lowest s Complement a h g =
    let low = middle_lowest s a h g in
    (λ p. low.0 (let e : s - 1 - a ≡ a = cc in e), λ q. ap (λ (x : ℕ). x ∷ []) (low.1 q))

module _ (s : ℕ) (m : Mirror) (hs : 1 < s) where
  lowest : (n : ℕ) (w : List ℕ) → length w ≡ n → Lowest s m hs n w
  lowest = ends (Lowest s m hs) (λ h g. no_letter_lowest s m) (λ a h g. one_letter_lowest s m a h.0 (canonical-one s m a g)) (lowest_step s m hs)

  -- ---- any word

  canonical_palindrome : (n : ℕ) (w : List ℕ) → length w ≡ n → Ranks s w → Palindrome s m w → Palindrome s m (canonical s m w)
  canonical_palindrome n w l h p =
      ⊎_elim (λ e. rw e p) (λ e. rw e (ap (mirror s m) p)) (is_canonical s m n w l h).one

  palindrome_canonical : (n : ℕ) (w : List ℕ) → length w ≡ n → Ranks s w → Palindrome s m (canonical s m w) → Palindrome s m w
  palindrome_canonical n w l h p =
      let twice : mirror s m (mirror s m w) ≡ w = mirror-mirror s m n w l h in
      ⊎_elim (λ e. rw e at p) (λ e. let q : mirror s m (mirror s m w) ≡ mirror s m w = rw e at p in sym q ∙ twice) (is_canonical s m n w l h).one

  -- A word of n letters is a palindrome exactly when its code is below the number of palindromes.
  pub palindromes_lowest : (n : ℕ) (w : List ℕ) → length w ≡ n → Ranks s w → Palindrome s m w ↔ (code s m n w < palindromes s m n)
  unfolding code
  palindromes_lowest n w l h =
      let c = is_canonical s m n w l h in
      let low = lowest n (canonical s m w) c.len c.ranks c.least in
      rw (code_is s m hs n (canonical s m w) c.len c.ranks c.least)
      (λ p. low.0 (canonical_palindrome n w l h p), λ q. palindrome_canonical n w l h (low.1 q))
