-- The code of any word of k letters: its canonical word is one of the two, a word and its mirror have one code, two words have one code only
-- when they are equal or mirrors, and the word of a code is the canonical word.
use Rattle.std.proofs.Common.{◌≡◌, refl, sym, ap, ◌∙◌, List, ◌⊎◌, inl, inr, ⊎_elim, ℕ, ◌<◌, arith, le-leb, length}
use native.Mathlib.Decide.{dec_le}
use borrow.Author.Tests.{lt-leb}
use Rattle.settings.specs.Settings.{classes}
use Rattle.encoding.specs.Words.{Mirror, Ranks, mirror, plain, canonical}
use Rattle.encoding.specs.Codes.{code_of_canonical, code}
use Rattle.encoding.specs.WordsOfCodes.{word_of}
use Rattle.encoding.proofs.Ends.{length-mirror}
use Rattle.encoding.proofs.Canonical.{IsCanonical, Ranks-mirror, mirror-mirror}
use Rattle.encoding.proofs.Recursion.{code_is}
use Rattle.encoding.proofs.Plain.{plain-injective}
use Rattle.encoding.proofs.Bijection.{coded, worded}

pub canonical-low : (s : ℕ) (m : Mirror) (w : List ℕ) → IsCanonical s m w → canonical s m w ≡ w
unfolding canonical
canonical-low s m w h = rw (le-leb (plain s w) (plain s (mirror s m w)) h)

pub canonical-high : (s : ℕ) (m : Mirror) (w : List ℕ) → plain s (mirror s m w) < plain s w → canonical s m w ≡ mirror s m w
unfolding canonical
canonical-high s m w h = rw (lt-leb (plain s w) (plain s (mirror s m w)) h)

-- What is known of the canonical word.
pub record CanonicalOf (s : ℕ) (m : Mirror) (n : ℕ) (w x : List ℕ) : Type 0 where
  pub len : length x ≡ n
  pub ranks : Ranks s x
  pub least : IsCanonical s m x
  pub one : (x ≡ w) ⊎ (x ≡ mirror s m w)

pub is_canonical : (s : ℕ) (m : Mirror) (n : ℕ) (w : List ℕ) → length w ≡ n → Ranks s w → CanonicalOf s m n w (canonical s m w)
is_canonical s m n w l h =
    elim (dec_le (plain s w) (plain s (mirror s m w))) as (λ d. CanonicalOf s m n w (canonical s m w)) [
      | yes p ↦ rw (canonical-low s m w p) (record { len = l; ranks = h; least = p; one = inl refl })
      | no np ↦
          rw (canonical-high s m w (omega arith))
          (record {
            len = length-mirror s m w ∙ l;
            ranks = Ranks-mirror s m n w l h;
            least = rw (mirror-mirror s m n w l h) (omega arith);
            one = inr refl;
          })
    ]

-- A word and its mirror have one canonical word.
pub canonical-mirror : (s : ℕ) (m : Mirror) (n : ℕ) (w : List ℕ) → 1 < s → length w ≡ n → Ranks s w → canonical s m (mirror s m w) ≡ canonical s m w
canonical-mirror s m n w hs l h =
    elim (dec_le (plain s w) (plain s (mirror s m w))) as (λ d. canonical s m (mirror s m w) ≡ canonical s m w) [
      | yes p ↦
          elim (dec_le (plain s (mirror s m w)) (plain s w)) as (λ d. canonical s m (mirror s m w) ≡ canonical s m w) [
            | yes p' ↦ ap (canonical s m) (plain-injective s n (mirror s m w) w hs (length-mirror s m w ∙ l) l (Ranks-mirror s m n w l h) h (omega arith))
            | no np' ↦ canonical-high s m (mirror s m w) (rw mm (omega arith)) ∙ mm ∙ sym (canonical-low s m w p)
          ]
      | no np ↦ canonical-low s m (mirror s m w) (rw mm (omega arith)) ∙ sym (canonical-high s m w (omega arith))
    ]
  where
    mm : mirror s m (mirror s m w) ≡ w
    mm = mirror-mirror s m n w l h

module _ (s : ℕ) (m : Mirror) (hs : 1 < s) where
  -- The code is below the number of classes.
  pub code_below : (k : ℕ) (w : List ℕ) → length w ≡ k → Ranks s w → code s m k w < classes s m k
  unfolding code
  code_below k w l h =
      let c = is_canonical s m k w l h in
      rw (code_is s m hs k (canonical s m w) c.len c.ranks c.least) (coded s m hs k (canonical s m w) c.len c.ranks c.least).below

  -- The word of a word's code is its canonical word.
  pub word_of-code : (k : ℕ) (w : List ℕ) → length w ≡ k → Ranks s w → word_of s m k (code s m k w) ≡ canonical s m w
  unfolding code
  word_of-code k w l h =
      let c = is_canonical s m k w l h in
      rw (code_is s m hs k (canonical s m w) c.len c.ranks c.least) (coded s m hs k (canonical s m w) c.len c.ranks c.least).back

  -- The word of a code is a canonical word of k letters with that code.
  pub code_word_of : (k q : ℕ) → q < classes s m k → code s m k (word_of s m k q) ≡ q
  unfolding code
  code_word_of k q h =
      let g = worded s m hs k q h in
      rw (canonical-low s m (word_of s m k q) g.least, code_is s m hs k (word_of s m k q) g.len g.ranks g.least) g.back

  pub length_word_of : (k q : ℕ) → q < classes s m k → length (word_of s m k q) ≡ k
  length_word_of k q h = (worded s m hs k q h).len

  pub ranks_word_of : (k q : ℕ) → q < classes s m k → Ranks s (word_of s m k q)
  ranks_word_of k q h = (worded s m hs k q h).ranks

  pub canonical_word_of : (k q : ℕ) → q < classes s m k → canonical s m (word_of s m k q) ≡ word_of s m k q
  canonical_word_of k q h = canonical-low s m (word_of s m k q) (worded s m hs k q h).least

  -- Two words have one code exactly where they are equal or mirrors.
  pub code_mirror : (k : ℕ) (w : List ℕ) → length w ≡ k → Ranks s w → code s m k (mirror s m w) ≡ code s m k w
  unfolding code
  code_mirror k w l h = ap (code_of_canonical s m k) (canonical-mirror s m k w hs l h)

  pub code_injective : (k : ℕ) (v w : List ℕ) → length v ≡ k → length w ≡ k → Ranks s v → Ranks s w → code s m k v ≡ code s m k w → (v ≡ w) ⊎ (v ≡ mirror s m w)
  code_injective k v w lv lw hv hw e =
      let c : canonical s m v ≡ canonical s m w = sym (word_of-code k v lv hv) ∙ ap (word_of s m k) e ∙ word_of-code k w lw hw in
      let mv : mirror s m (mirror s m v) ≡ v = mirror-mirror s m k v lv hv in
      let mw : mirror s m (mirror s m w) ≡ w = mirror-mirror s m k w lw hw in
      ⊎_elim
      (λ p. ⊎_elim (λ q. inl (sym p ∙ c ∙ q)) (λ q. inr (sym p ∙ c ∙ q)) (is_canonical s m k w lw hw).one)
      (λ p.
      ⊎_elim
      (λ q. inr (sym mv ∙ ap (mirror s m) (sym p ∙ c ∙ q)))
      (λ q. inl (sym mv ∙ ap (mirror s m) (sym p ∙ c ∙ q) ∙ mw))
      (is_canonical s m k w lw hw).one)
      (is_canonical s m k v lv hv).one
