-- Words in capitals and their ranks: a letter of the settings is the one of its rank; a canonical word in capitals is the word that its code is printed as
-- (`canonical_text`), and the other way round (`text_canonical`); a word is canonical where its plain rank is not above its mirror's (`canonical-test`). From
-- what is known of settings that pass the check and the theorems of the encoding.
use Rattle.std.proofs.Common.{◌≡◌, refl, sym, ap, ap₂, ◌∙◌, Bool, true, false, cond, None, List, [], ◌∷◌, ℕ, ◌<◌, arith, length, get_or, leb, leb-false, ne_eqb}
use mathlib.Core.Bool.{and-eq-true_iff}
use mathlib.Mathlib.Data.Bool.Basic.{eq-false_of_not-eq-true}
use Rattle.settings.specs.Settings.{is_in, different_capitals, mirror_of, settings_ground}
use Rattle.settings.proofs.LetterPlaces.{in_capital, found, in_at, read_capital, rank_at_lem, capitals_differ}
use Rattle.settings.proofs.SettingsGrounds.{good_settings, limits}
use Rattle.encoding.specs.Words.{Mirror, Ranks, IsWord, mirror, plain, canonical}
use Rattle.encoding.specs.WordsOfCodes.{word_of}
use Rattle.encoding.specs.Calls.{rank_at, ranks_of, in_capitals, word_bytes}
use Rattle.encoding.proofs.Theorems.{word_of_code, word_of_own_code}
use Rattle.words.proofs.LetterLoops.{ranks_below, length-ranks_of}
use Rattle.tally_book.specs.Table.{class_count, place_of}
use Rattle.tally_book.specs.Book.{same_word}
use Rattle.tally_book.proofs.WordLists.{same_word_lem, word_same}
use Rattle.loading.specs.Shapes.{of_letters}
use Rattle.settings.specs.Given.{the_settings}

-- ---- a word

module _ (letters : List ℕ) (capitals : different_capitals letters ≡ true) where
  -- A letter of the settings is the one of its rank; and the letter of a rank has that rank.
  letter_of_rank : (b : ℕ) → is_in b letters ≡ true → get_or letters (rank_at letters b) 0 ≡ b
  letter_of_rank b i =
      let (p, e, h) = found 0 b letters i in
      rw (read_capital letters capitals b i, e) (ap (λ (x : ℕ). get_or letters x 0) (omega arith) ∙ h)

  rank_of_letter : (i : ℕ) → i < length letters → rank_at letters (get_or letters i 0) ≡ i
  rank_of_letter i h = rw (rank_at_lem letters capitals i h)

  -- A word of the settings' letters is its ranks in capitals.
  word_of_ranks : (word : List ℕ) → of_letters letters word ≡ true → in_capitals letters (ranks_of letters word) ≡ word
  unfolding of_letters in_capitals ranks_of
  word_of_ranks [] e = refl
  word_of_ranks (b ∷ word) e =
      let h = (and-eq-true_iff (is_in b letters) (of_letters letters word)).0 e in
      ap₂ (λ (x : ℕ) (l : List ℕ). x ∷ l) (letter_of_rank b h.0) (word_of_ranks word h.1)

  -- No byte of such a word is an LF.
  word_no_lf : (word : List ℕ) → of_letters letters word ≡ true → is_in 10 word ≡ false
  unfolding of_letters is_in
  word_no_lf [] e = refl
  word_no_lf (b ∷ word) e =
      let h = (and-eq-true_iff (is_in b letters) (of_letters letters word)).0 e in
      rw (ne_eqb b 10 (λ z. omega (arith, in_capital b letters capitals h.0))) (word_no_lf word h.1)

  -- Ranks in capitals are a word of the settings' letters with these ranks.
  ranks_of_word : (w : List ℕ) → Ranks (length letters) w → ranks_of letters (in_capitals letters w) ≡ w
  unfolding in_capitals ranks_of
  ranks_of_word [] a = refl
  ranks_of_word (x ∷ w) a = ap₂ (λ (y : ℕ) (l : List ℕ). y ∷ l) (rank_of_letter x a.0) (ranks_of_word w a.1)

  capitals_of_letters : (w : List ℕ) → Ranks (length letters) w → of_letters letters (in_capitals letters w) ≡ true
  unfolding of_letters in_capitals
  capitals_of_letters [] a = refl
  capitals_of_letters (x ∷ w) a = rw (in_at letters x a.0) (capitals_of_letters w a.1)

-- ---- a canonical word and its code

module _ (letters : List ℕ) (k m : ℕ) (good : settings_ground (the_settings letters k m) ≡ None) where
  capitals : different_capitals letters ≡ true
  capitals = capitals_differ letters k m good

  -- No letter is an LF.
  pub letters_no_lf : is_in 10 letters ≡ false
  letters_no_lf = eq-false_of_not-eq-true (λ e. omega (arith, in_capital 10 letters capitals e))

  -- The ranks of a text of k bytes are a word.
  pub word_is : (word : List ℕ) → length word ≡ k → IsWord (length letters) k (ranks_of letters word)
  word_is word h =
      record {
        letters = length-ranks_of letters word ∙ h;
        ranks = ranks_below letters word (omega (arith, (good_settings letters k m good).two));
      }

  -- A canonical word in the settings' letters is what its code is printed as.
  pub canonical_text : (word : List ℕ) → length word ≡ k → of_letters letters word ≡ true
      → canonical (length letters) (mirror_of m) (ranks_of letters word) ≡ ranks_of letters word
      → word ≡ word_bytes (the_settings letters k m) (place_of (the_settings letters k m) (ranks_of letters word))
  unfolding word_bytes
  canonical_text word h o c =
      sym (ap (in_capitals letters) (word_of_own_code (length letters) (mirror_of m) k (limits letters k m good) (ranks_of letters word) (word_is word h) ∙ c)
      ∙ word_of_ranks letters capitals word o)

  -- What a code is printed as: a canonical word in the settings' letters that has the code.
  pub record PrintedWord (q : ℕ) (word : List ℕ) : Type 0 where
    pub letters_only : of_letters letters word ≡ true
    pub own : canonical (length letters) (mirror_of m) (ranks_of letters word) ≡ ranks_of letters word
    pub code_is : place_of (the_settings letters k m) (ranks_of letters word) ≡ q
    pub no_lf : is_in 10 word ≡ false

  pub text_canonical : (q : ℕ) → q < class_count (the_settings letters k m) → PrintedWord q (word_bytes (the_settings letters k m) q)
  unfolding word_bytes
  text_canonical q h =
      let W = word_of_code (length letters) (mirror_of m) k (limits letters k m good) q h in
      let same = ranks_of_word letters capitals (word_of (length letters) (mirror_of m) k q) W.word.ranks in
      record {
        letters_only = capitals_of_letters letters capitals (word_of (length letters) (mirror_of m) k q) W.word.ranks;
        own = rw same W.own_canonical;
        code_is = rw same W.own_code;
        no_lf =
            word_no_lf letters capitals (in_capitals letters (word_of (length letters) (mirror_of m) k q))
            (capitals_of_letters letters capitals (word_of (length letters) (mirror_of m) k q) W.word.ranks);
      }

-- Whether a word is its own canonical word is a test of the two plain ranks.
pub canonical-test : (s : ℕ) (m : Mirror) (w : List ℕ) → same_word (canonical s m w) w ≡ leb (plain s w) (plain s (mirror s m w))
unfolding canonical
canonical-test s m w = go (leb (plain s w) (plain s (mirror s m w))) refl
  where
    go : (t : Bool) → leb (plain s w) (plain s (mirror s m w)) ≡ t → same_word (cond t w (mirror s m w)) w ≡ t
    go true e = same_word_lem w
    go false e =
        eq-false_of_not-eq-true
        (λ same. let z : plain s (mirror s m w) ≡ plain s w = ap (plain s) (word_same (mirror s m w) w same) in
        omega (arith, leb-false (plain s w) (plain s (mirror s m w)) e))
