-- The codes of words within the limits, and places and classes under settings that pass the check. From the theorems of the encoding.
use Rattle.std.proofs.Common.{◌≡◌, refl, sym, ap, ◌∙◌, ℕ, ◌<◌, None, List, [], ◌∷◌, map, length, eqb, eqb-true, eq-eqb}
use Rattle.settings.specs.Settings.{mirror_of, classes, settings_ground}
use Rattle.settings.specs.Limits.{Limits}
use Rattle.settings.proofs.SettingsGrounds.{limits}
use Rattle.encoding.specs.Words.{Mirror, IsWord, canonical}
use Rattle.encoding.specs.Codes.{code}
use Rattle.encoding.specs.WordsOfCodes.{word_of}
use Rattle.encoding.proofs.Codes.{is_canonical, canonical-low}
use Rattle.encoding.proofs.Theorems.{code_below_classes, same_code, word_of_code, word_of_code_unique, canonical_is_one}
use Rattle.files.specs.File.{File}
use Rattle.tally_book.specs.Table.{class_count, place_of, windows_of_file, places, occurrences}
use Rattle.tally_book.specs.Book.{same_class, hits, CanonicalWord}
use Rattle.tally_book.specs.Demand.{OnePlaceAClass}
use Rattle.laws.specs.Each.{Each}
use Rattle.laws.proofs.Tests.{bool_ext}
use Rattle.tally_book.specs.Needs.{Below}
use Rattle.laws.proofs.Each.{each_map}
use Rattle.tally_book.proofs.WordLists.{class_same, same_class_lem}
use Rattle.tally_book.proofs.FileWords.{windows_are_words}
use Rattle.settings.specs.Given.{the_settings}

-- The codes of some words are below the number of classes.
pub codes_below : {s k : ℕ} (m : Mirror) → Limits s k → (ws : List (List ℕ)) → Each (IsWord s k) ws → Each (Below (classes s m k)) (map (code s m k) ws)
codes_below {s} {k} m within ws words = each_map (IsWord s k) (Below (classes s m k)) (code s m k) ws (code_below_classes s m k within) words

module _ (letters : List ℕ) (k m : ℕ) (good : settings_ground (the_settings letters k m) ≡ None) where
  within : Limits (length letters) k
  within = limits letters k m good

  -- The place of a word is below the number of classes.
  pub place_below : (w : List ℕ) → IsWord (length letters) k w → place_of (the_settings letters k m) w < class_count (the_settings letters k m)
  place_below w i = code_below_classes (length letters) (mirror_of m) k within w i

  -- "Every place below the number of classes stands for just one class, every class has its place there, and two words share a place exactly when they
  -- are equal or mirrors of each other."
  pub places_and_classes : OnePlaceAClass (the_settings letters k m)
  places_and_classes =
      record {
        every_class_has_its_place = place_below;
        every_place_stands_for_a_class = λ q h.
            let c = word_of_code (length letters) (mirror_of m) k within q h in
            (word_of (length letters) (mirror_of m) k q, record { word = c.word; own = c.own_canonical }, c.own_code);
        and_for_just_one = λ v w c d e.
            let is-that-of = word_of_code_unique (length letters) (mirror_of m) k within (place_of (the_settings letters k m) w) in
            is-that-of v (record { word = c.word; own_canonical = c.own; own_code = e })
            ∙ sym (is-that-of w (record { word = d.word; own_canonical = d.own; own_code = refl }));
        words_share_a_place_exactly_when_equal_or_mirrors = same_code (length letters) (mirror_of m) k within;
      }

  -- The test of the book and that of the table are one.
  place_test : (w v : List ℕ) → IsWord (length letters) k w → IsWord (length letters) k v
      → eqb (place_of (the_settings letters k m) w) (place_of (the_settings letters k m) v) ≡ same_class (length letters) (mirror_of m) w v
  place_test w v i j =
      let share = same_code (length letters) (mirror_of m) k within v w j i in
      bool_ext (eqb (place_of (the_settings letters k m) w) (place_of (the_settings letters k m) v)) (same_class (length letters) (mirror_of m) w v)
      (λ e. same_class_lem (length letters) (mirror_of m) w v (share.0 (sym (eqb-true _ _ e))))
      (λ e. eq-eqb _ _ (sym (share.1 (class_same (length letters) (mirror_of m) w v e))))

  -- A class's place is named as often as the words of the class occur.
  pub occurrences_are_hits : (w : List ℕ) (vs : List (List ℕ)) → IsWord (length letters) k w → Each (IsWord (length letters) k) vs
      → occurrences (place_of (the_settings letters k m) w) (map (place_of (the_settings letters k m)) vs) ≡ hits (length letters) (mirror_of m) w vs
  unfolding occurrences hits
  occurrences_are_hits w [] i a = refl
  occurrences_are_hits w (v ∷ vs) i a = rw (place_test w v i a.0, occurrences_are_hits w vs i a.1)

  -- The places of a file's windows are below the number of classes.
  pub places_below : (file : File) → Each (Below (class_count (the_settings letters k m))) (places (the_settings letters k m) file)
  places_below file = codes_below (mirror_of m) within (windows_of_file letters k file) (windows_are_words letters k file)

  -- The canonical word of a word, and its place.
  pub canonical_word : (w : List ℕ) → IsWord (length letters) k w → CanonicalWord (length letters) (mirror_of m) k (canonical (length letters) (mirror_of m) w)
  canonical_word w i =
      let c = is_canonical (length letters) (mirror_of m) k w i.letters i.ranks in
      record {
        word = record { letters = c.len; ranks = c.ranks };
        own = canonical-low (length letters) (mirror_of m) (canonical (length letters) (mirror_of m) w) c.least;
      }

  -- A word and its canonical word have one place.
  pub canonical_place : (w : List ℕ) → IsWord (length letters) k w → place_of (the_settings letters k m) (canonical (length letters) (mirror_of m) w) ≡ place_of (the_settings letters k m) w
  canonical_place w i =
      (same_code (length letters) (mirror_of m) k within (canonical (length letters) (mirror_of m) w) w (canonical_word w i).word i).1
      (canonical_is_one (length letters) (mirror_of m) k within w i)

  -- A word and its canonical word occur equally often.
  pub hits_of_canonical : (w : List ℕ) (vs : List (List ℕ)) → IsWord (length letters) k w → Each (IsWord (length letters) k) vs
      → hits (length letters) (mirror_of m) (canonical (length letters) (mirror_of m) w) vs ≡ hits (length letters) (mirror_of m) w vs
  hits_of_canonical w vs i a =
      sym (occurrences_are_hits (canonical (length letters) (mirror_of m) w) vs (canonical_word w i).word a)
      ∙ ap (λ (q : ℕ). occurrences q (map (place_of (the_settings letters k m)) vs)) (canonical_place w i)
      ∙ occurrences_are_hits w vs i a
