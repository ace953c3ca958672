-- What is claimed of the encoding, for both mirrors and every number of letters and every k within the limits (`Limits`: 2 to 16 letters, s^k at
-- most 2^62). Each theorem stands below its statement in words; docs/CLAIMS.md cites them by name.
use Rattle.std.proofs.Common.{◌≡◌, sym, ap, ◌∙◌, true, false, not, ◌&&◌, List, [], ◌∷◌, ◌↔◌, ◌⊎◌, ⊎_elim, ℕ, ◌+◌, ◌/◌, ◌^◌, ◌<◌, ◌≤◌, arith}
use Rattle.settings.specs.Settings.{half_up, is_odd, classes}
use Rattle.settings.specs.Limits.{Limits}
use Rattle.encoding.specs.Words.{Mirror, Reversal, Complement, IsWord, mirror_rank, mirror, plain, canonical, Palindrome}
use Rattle.encoding.specs.Codes.{digits, differing_pair, shift, odd_shift, code, WordOfCode}
use Rattle.encoding.specs.WordsOfCodes.{word_of}
use Rattle.encoding.specs.Needs.{palindromes}
use Rattle.encoding.proofs.Ends.{length-mirror}
use Rattle.encoding.proofs.ClassNumbers.{classes-palindromes, some_palindromes, no_palindromes}
use Rattle.encoding.proofs.Canonical.{Ranks-mirror, mirror-mirror}
use Rattle.encoding.proofs.Recursion.{value, code_is}
use Rattle.encoding.proofs.Codes.{is_canonical, canonical-mirror, code_below, word_of-code, code_word_of, length_word_of, ranks_word_of, canonical_word_of, code_mirror, code_injective}
use Rattle.encoding.proofs.Palindromes.{palindromes_lowest}

module _ (s : ℕ) (m : Mirror) (k : ℕ) (within : Limits s k) where
  -- ---- words and classes

  -- The mirror of a word is a word, and the mirror of the mirror is the word.
  pub mirror_is_word : (w : List ℕ) → IsWord s k w → IsWord s k (mirror s m w)
  mirror_is_word w i = record { letters = length-mirror s m w ∙ i.letters; ranks = Ranks-mirror s m k w i.letters i.ranks }

  pub mirror_of_mirror : (w : List ℕ) → IsWord s k w → mirror s m (mirror s m w) ≡ w
  mirror_of_mirror w i = mirror-mirror s m k w i.letters i.ranks

  -- The canonical word of a word is the word or its mirror, and the mirror has the same one.
  pub canonical_is_one : (w : List ℕ) → IsWord s k w → (canonical s m w ≡ w) ⊎ (canonical s m w ≡ mirror s m w)
  canonical_is_one w i = (is_canonical s m k w i.letters i.ranks).one

  pub canonical_of_mirror : (w : List ℕ) → IsWord s k w → canonical s m (mirror s m w) ≡ canonical s m w
  canonical_of_mirror w i = canonical-mirror s m k w within.two i.letters i.ranks

  -- ---- the code from the digits of the canonical word

  -- The value of the digits of a word's canonical word is the word's code with the shift and the odd-k subtraction added: neither subtraction in the code
  -- is cut off.
  pub value_of_digits : (w : List ℕ) → IsWord s k w
      → plain s (digits s m k (canonical s m w)) ≡ code s m k w + shift s k (differing_pair s m k (canonical s m w)) + odd_shift s m k
  unfolding code
  value_of_digits w i =
      let C = is_canonical s m k w i.letters i.ranks in
      omega (
        arith,
        value s m within.two k (canonical s m w) C.len C.ranks C.least,
        code_is s m within.two k (canonical s m w) C.len C.ranks C.least,
      )

  -- ---- codes and classes are in bijection, and the codes fill [0, classes)

  -- The code of every word is below the number of classes.
  pub code_below_classes : (w : List ℕ) → IsWord s k w → code s m k w < classes s m k
  code_below_classes w i = code_below s m within.two k w i.letters i.ranks

  -- Two words have the same code exactly when they are equal or mirrors of each other.
  pub same_code : (v w : List ℕ) → IsWord s k v → IsWord s k w → (code s m k v ≡ code s m k w) ↔ ((v ≡ w) ⊎ (v ≡ mirror s m w))
  same_code v w i j = (
    code_injective s m within.two k v w i.letters j.letters i.ranks j.ranks,
    ⊎_elim (λ e. ap (code s m k) e) (λ e. ap (code s m k) e ∙ code_mirror s m within.two k w j.letters j.ranks),
  )

  -- Every code below the number of classes is some class's: the word of the code is a canonical word of k letters and has that code.
  pub word_of_code : (q : ℕ) → q < classes s m k → WordOfCode s m k q (word_of s m k q)
  word_of_code q below =
      record {
        word =
            record {
              letters = length_word_of s m within.two k q below;
              ranks = ranks_word_of s m within.two k q below;
            };
        own_canonical = canonical_word_of s m within.two k q below;
        own_code = code_word_of s m within.two k q below;
      }

  -- The word of a word's code is its canonical word.
  pub word_of_own_code : (w : List ℕ) → IsWord s k w → word_of s m k (code s m k w) ≡ canonical s m w
  word_of_own_code w i = word_of-code s m within.two k w i.letters i.ranks

  -- No other word is the canonical word of a code.
  pub word_of_code_unique : (q : ℕ) (w : List ℕ) → WordOfCode s m k q w → w ≡ word_of s m k q
  word_of_code_unique q w of = sym of.own_canonical ∙ sym (word_of_own_code w of.word) ∙ ap (word_of s m k) of.own_code

-- ---- the middle letter under complement

-- A rank is its own mirror exactly when it is the middle one of an odd s: there are as many ranks below it as above it.
pub own_mirror : (s a : ℕ) → a < s → (mirror_rank s Complement a ≡ a) ↔ (a + 1 + a ≡ s)
unfolding mirror_rank
own_mirror s a below = (λ e. omega arith, λ e. omega arith)

-- Where one letter is left and it is its own mirror, its digit is its rank.
pub own_digit : (s : ℕ) (m : Mirror) (a : ℕ) → mirror_rank s m a ≡ a → digits s m 1 (a ∷ []) ≡ a ∷ []
unfolding digits
own_digit s m a own = ap (λ (x : ℕ). x ∷ []) own

-- ---- palindromes have the lowest codes

-- Under reversal exactly the s^c lowest codes, c = k/2 rounded up, are those of palindromes.
pub reversal_palindromes : (s k : ℕ) → Limits s k → (w : List ℕ) → IsWord s k w → Palindrome s Reversal w ↔ (code s Reversal k w < s ^ half_up k)
unfolding palindromes
reversal_palindromes s k within w i = palindromes_lowest s Reversal within.two k w i.letters i.ranks

-- And these are codes: there are at least s^c classes.
pub reversal_palindromes_fit : (s k : ℕ) → Limits s k → s ^ half_up k ≤ classes s Reversal k
unfolding palindromes
reversal_palindromes_fit s k within = classes-palindromes s Reversal k within.two

-- Under complement exactly the s^(k/2 rounded down) lowest, save for odd k with even s.
pub complement_palindromes : (s k : ℕ) → Limits s k → (is_odd k && not (is_odd s)) ≡ false → (w : List ℕ) → IsWord s k w
    → Palindrome s Complement w ↔ (code s Complement k w < s ^ (k / 2))
complement_palindromes s k within some w i =
    let p = palindromes_lowest s Complement within.two k w i.letters i.ranks in
    rw (some_palindromes s k some) at p

-- And these are codes: there are at least s^(k/2 rounded down) classes.
pub complement_palindromes_fit : (s k : ℕ) → Limits s k → (is_odd k && not (is_odd s)) ≡ false → s ^ (k / 2) ≤ classes s Complement k
complement_palindromes_fit s k within some = rw (some_palindromes s k some) at (classes-palindromes s Complement k within.two)

-- Under complement with odd k and even s there is none.
pub complement_no_palindromes : (s k : ℕ) → Limits s k → (is_odd k && not (is_odd s)) ≡ true → (w : List ℕ) → IsWord s k w → Palindrome s Complement w → ⊥
complement_no_palindromes s k within none w i p =
    let q = (palindromes_lowest s Complement within.two k w i.letters i.ranks).0 p in
    omega (arith, no_palindromes s k none)
