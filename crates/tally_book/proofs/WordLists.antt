-- Words told apart by a test, and the list of all canonical words: it has those words that are canonical words of a class, and no others.
-- From the definitions in specs/Book.antt.
use Rattle.std.proofs.Common.{◌≡◌, refl, sym, ap, ap₂, ◌∙◌, ◌⊎◌, inl, inr, ⊎_elim, ℕ, zero, suc, ◌<◌, arith, Bool, true, false, cond, ◌&&◌, ◌||◌, List, [], ◌∷◌, ◌++◌, map, length, eqb, eqb-true, eq-eqb}
use native.Mathlib.Decide.{ℕ_discrete}
use mathlib.Core.Bool.{or-true, false≢true}
use mathlib.Core.List.{Memᴰ}
use Rattle.encoding.specs.Words.{Mirror, Ranks, mirror, canonical}
use Rattle.tally_book.specs.Book.{same_word, same_class, CanonicalWord, with_front, all_words, canonical_ones}

-- ---- the tests

-- A word is equal to itself by the test.
pub same_word_lem : (w : List ℕ) → same_word w w ≡ true
unfolding same_word
same_word_lem [] = refl
same_word_lem (a ∷ w) = rw (eq-eqb a a refl) (same_word_lem w)

-- Words that the test takes for equal are.
pub word_same : (v w : List ℕ) → same_word v w ≡ true → v ≡ w
unfolding same_word
word_same [] [] e = refl
word_same [] (b ∷ w) e = absurd (false≢true e)
word_same (a ∷ v) [] e = absurd (false≢true e)
word_same (a ∷ v) (b ∷ w) e = go (eqb a b) refl e (word_same v w)
  where
    go : (t : Bool) → eqb a b ≡ t → (t && same_word v w) ≡ true → (same_word v w ≡ true → v ≡ w) → a ∷ v ≡ b ∷ w
    go true f g ih = ap₂ (λ (x : ℕ) (l : List ℕ). x ∷ l) (eqb-true a b f) (ih g)
    go false f g ih = absurd (false≢true g)

-- Words of one class by the test are equal or mirrors.
pub class_same : (s : ℕ) (m : Mirror) (w v : List ℕ) → same_class s m w v ≡ true → (v ≡ w) ⊎ (v ≡ mirror s m w)
unfolding same_class
class_same s m w v e = go (same_word v w) refl e
  where
    go : (t : Bool) → same_word v w ≡ t → (t || same_word v (mirror s m w)) ≡ true → (v ≡ w) ⊎ (v ≡ mirror s m w)
    go true f g = inl (word_same v w f)
    go false f g = inr (word_same v (mirror s m w) g)

-- And the other way round.
pub same_class_lem : (s : ℕ) (m : Mirror) (w v : List ℕ) → (v ≡ w) ⊎ (v ≡ mirror s m w) → same_class s m w v ≡ true
unfolding same_class
same_class_lem s m w v =
    ⊎_elim
    (λ (e : v ≡ w). rw (ap (λ (x : List ℕ). same_word v x) (sym e) ∙ same_word_lem v))
    (λ (e : v ≡ mirror s m w). rw (ap (λ (x : List ℕ). same_word v x) (sym e) ∙ same_word_lem v) (or-true (same_word v w)))

-- ---- all words

in_fronts : (n x : ℕ) (w : List ℕ) (ws : List (List ℕ)) → x < n → Memᴰ w ws → Memᴰ (x ∷ w) (with_front n ws)
unfolding with_front
in_fronts zero x w ws h m = absurd (omega arith)
in_fronts (suc n) x w ws h m =
    elim (ℕ_discrete x n) as (λ _. Memᴰ (x ∷ w) (with_front n ws ++ map (◌∷◌ n) ws)) [
      | yes e ↦ rw e (mathlib.Core.List.Memᴰ.append_right (with_front n ws) (mathlib.Core.List.Memᴰ.map (◌∷◌ n) m))
      | no e ↦ mathlib.Core.List.Memᴰ.append_left (map (◌∷◌ n) ws) (in_fronts n x w ws (omega arith) m)
    ]

of_fronts : (n : ℕ) (v : List ℕ) (ws : List (List ℕ)) → Memᴰ v (with_front n ws) → (x : ℕ) × (w : List ℕ) × (x < n) × (Memᴰ w ws) × (v ≡ x ∷ w)
unfolding with_front
of_fronts zero v ws m = absurd (mathlib.Core.List.Memᴰ.not-nil m)
of_fronts (suc n) v ws m =
    ⊎_elim
    (λ (r : Memᴰ v (with_front n ws)). let (x, w, l, q, e) = of_fronts n v ws r in (x, w, omega arith, q, e))
    (λ (r : Memᴰ v (map (◌∷◌ n) ws)). let (w, q, e) = mathlib.Core.List.Memᴰ.of_map (◌∷◌ n) ws r in (n, w, omega arith, q, sym e))
    (mathlib.Core.List.Memᴰ.append_cases (with_front n ws) m)

in_all_words : (s k : ℕ) (w : List ℕ) → length w ≡ k → Ranks s w → Memᴰ w (all_words s k)
unfolding all_words
in_all_words s zero [] e h = mathlib.Core.List.Memᴰ.head refl
in_all_words s zero (x ∷ w) e h = absurd (omega arith)
in_all_words s (suc k) [] e h = absurd (omega arith)
in_all_words s (suc k) (x ∷ w) e h = in_fronts s x w (all_words s k) h.0 (in_all_words s k w (omega arith) h.1)

of_all_words : (s k : ℕ) (v : List ℕ) → Memᴰ v (all_words s k) → (length v ≡ k) × Ranks s v
unfolding all_words
of_all_words s zero v m =
    ⊎_elim
    (λ (e : v ≡ []). rw e (refl, tt))
    (λ (r : Memᴰ v []). absurd (mathlib.Core.List.Memᴰ.not-nil r))
    (mathlib.Core.List.Memᴰ.cases_cons m)
of_all_words s (suc k) v m =
    let (x, w, l, n, e) = of_fronts s v (all_words s k) m in
    let ih = of_all_words s k w n in
    rw e (ap suc ih.0, (l, ih.1))

-- ---- the canonical ones

module _ (s : ℕ) (m : Mirror) where
  in_canonical_ones : (w : List ℕ) (ws : List (List ℕ)) → canonical s m w ≡ w → Memᴰ w ws → Memᴰ w (canonical_ones s m ws)
  unfolding canonical_ones
  in_canonical_ones w [] e n = absurd (mathlib.Core.List.Memᴰ.not-nil n)
  in_canonical_ones w (v ∷ ws) e n =
      ⊎_elim here (λ (r : Memᴰ w ws). there (same_word (canonical s m v) v) (in_canonical_ones w ws e r)) (mathlib.Core.List.Memᴰ.cases_cons n)
    where
      here : w ≡ v → Memᴰ w (cond (same_word (canonical s m v) v) (v ∷ canonical_ones s m ws) (canonical_ones s m ws))
      here f =
          let own : canonical s m v ≡ v = ap (canonical s m) (sym f) ∙ e ∙ f in
          let ok : same_word (canonical s m v) v ≡ true = ap (λ (x : List ℕ). same_word x v) own ∙ same_word_lem v in
          rw ok (mathlib.Core.List.Memᴰ.head f)

      there : (b : Bool) → Memᴰ w (canonical_ones s m ws) → Memᴰ w (cond b (v ∷ canonical_ones s m ws) (canonical_ones s m ws))
      there true r = mathlib.Core.List.Memᴰ.tail r
      there false r = r

  of_canonical_ones : (w : List ℕ) (ws : List (List ℕ)) → Memᴰ w (canonical_ones s m ws) → (canonical s m w ≡ w) × Memᴰ w ws
  unfolding canonical_ones
  of_canonical_ones w [] n = absurd (mathlib.Core.List.Memᴰ.not-nil n)
  of_canonical_ones w (v ∷ ws) n = go (same_word (canonical s m v) v) refl n (of_canonical_ones w ws)
    where
      go : (b : Bool) → same_word (canonical s m v) v ≡ b → Memᴰ w (cond b (v ∷ canonical_ones s m ws) (canonical_ones s m ws))
          → (Memᴰ w (canonical_ones s m ws) → (canonical s m w ≡ w) × Memᴰ w ws)
          → (canonical s m w ≡ w) × Memᴰ w (v ∷ ws)
      go true e r ih =
          ⊎_elim
          (λ (f : w ≡ v). (ap (canonical s m) f ∙ word_same (canonical s m v) v e ∙ sym f, mathlib.Core.List.Memᴰ.head f))
          (λ (q : Memᴰ w (canonical_ones s m ws)). let (h, p) = ih q in (h, mathlib.Core.List.Memᴰ.tail p))
          (mathlib.Core.List.Memᴰ.cases_cons r)
      go false e r ih = let (h, q) = ih r in (h, mathlib.Core.List.Memᴰ.tail q)

  -- Each canonical word is in the list of all.
  pub listed : (k : ℕ) (w : List ℕ) → CanonicalWord s m k w → Memᴰ w (canonical_ones s m (all_words s k))
  listed k w c = in_canonical_ones w (all_words s k) c.own (in_all_words s k w c.word.letters c.word.ranks)

  -- Each word in that list is the canonical word of a class.
  pub unlisted : (k : ℕ) (w : List ℕ) → Memᴰ w (canonical_ones s m (all_words s k)) → CanonicalWord s m k w
  unlisted k w r =
      let (own, n) = of_canonical_ones w (all_words s k) r in
      let f = of_all_words s k w n in
      record { word = record { letters = f.0; ranks = f.1 }; own = own }
