-- A text with other bytes in place of its own, of which LF alone stands for LF and CR alone for CR: its lines and their texts are those of the text, with
-- the same bytes replaced. Byte by byte.
use Rattle.std.proofs.Common.{◌≡◌, refl, Bool, true, false, cond, ◌&&◌, ◌||◌, List, [], ◌∷◌, map, ℕ, eqb}
use Rattle.lines.specs.Lines.{lf_next, on_first, lines, text_of, first_byte_is}

-- The first byte, where the test for it takes each byte for the one in its place.
pub first_mapped : (f : ℕ → ℕ) (c : ℕ) → ((b : ℕ) → eqb (f b) c ≡ eqb b c) → (t : List ℕ) → first_byte_is c (map f t) ≡ first_byte_is c t
unfolding first_byte_is
first_mapped f c same [] = refl
first_mapped f c same (b ∷ t) = same b

module _ (f : ℕ → ℕ) (same_lf : (b : ℕ) → eqb (f b) 10 ≡ eqb b 10) where
  pub lf_mapped : (t : List ℕ) → lf_next (map f t) ≡ lf_next t
  unfolding lf_next
  lf_mapped [] = refl
  lf_mapped (b ∷ t) = same_lf b

  on_first_mapped : (b : ℕ) (ls : List (List ℕ)) → on_first (f b) (map (map f) ls) ≡ map (map f) (on_first b ls)
  unfolding on_first
  on_first_mapped b [] = refl
  on_first_mapped b (l ∷ ls) = refl

  pub lines_mapped : (t : List ℕ) → lines (map f t) ≡ map (map f) (lines t)
  unfolding lines
  lines_mapped [] = refl
  lines_mapped (b ∷ t) = rw (same_lf b, lines_mapped t) (go (eqb b 10))
    where
      go : (c : Bool) → cond c ((f b ∷ []) ∷ map (map f) (lines t)) (on_first (f b) (map (map f) (lines t)))
          ≡ map (map f) (cond c ((b ∷ []) ∷ lines t) (on_first b (lines t)))
      go true = refl
      go false = on_first_mapped b (lines t)

  pub text_mapped : ((b : ℕ) → eqb (f b) 13 ≡ eqb b 13) → (l : List ℕ) → text_of (map f l) ≡ map f (text_of l)
  unfolding text_of
  text_mapped same-cr [] = refl
  text_mapped same-cr (b ∷ l) = rw (same_lf b, same-cr b, lf_mapped l, text_mapped same-cr l) (go (eqb b 10 || (eqb b 13 && lf_next l)))
    where
      go : (c : Bool) → cond c [] (f b ∷ map f (text_of l)) ≡ map f (cond c [] (b ∷ text_of l))
      go true = refl
      go false = refl
