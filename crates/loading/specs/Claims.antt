-- What is claimed of loading: what the lines are made of that have the shapes (proofs/Shapes.antt, proofs/SurveyShapes.antt), and which texts are loaded
-- (proofs/Theorems.antt).
use Rattle.std.specs.Prelude.{◌≡◌, true, List, [], ◌∷◌, ◌++◌, ℕ, ◌<◌, length, get_or}
use Rattle.laws.specs.Text.{bytes}
use Rattle.survey.specs.Forms.{form, settings_forms, line_of}
use Rattle.survey.specs.Grammar.{LettersText, KText, MirrorText}
use Rattle.tally_book.specs.Table.{class_count}
use Rattle.listing.specs.Listing.{count_line, total_line, listing_of}
use Rattle.loading.specs.Shapes.{is_number, of_letters}
use Rattle.settings.specs.Given.{Given}

-- "the survey line is of the form the program reads, classes last": a line of the program's grammar with the form of a number as its last, and LF. That
-- `is_survey_line` finds just these is a theorem.
pub record SurveyShape (l : List ℕ) : Type 0 where
  pub letters : List ℕ
  pub k_text : List ℕ
  pub mirror_text : List ℕ
  pub digits : List ℕ
  pub k : ℕ
  pub mirror : ℕ
  pub letters_good : LettersText letters
  pub k_good : KText k_text k
  pub mirror_good : MirrorText mirror_text mirror
  pub number : is_number digits ≡ true
  pub line : l ≡ line_of (settings_forms letters k_text mirror_text ++ (form (bytes "classes") digits ∷ [])) ++ bytes "\n"

-- The line of a word of k capitals of the settings and of some number: "a word is k capitals of the settings". That `is_count_line` finds just these is a theorem.
pub record CountShape (letters : List ℕ) (k : ℕ) (l : List ℕ) : Type 0 where
  pub word : List ℕ
  pub n : ℕ
  pub long : length word ≡ k
  pub letters_only : of_letters letters word ≡ true
  pub line : l ≡ count_line word n

-- The total of some number. That `is_total_line` finds just these is a theorem.
pub record TotalShape (l : List ℕ) : Type 0 where
  pub n : ℕ
  pub line : l ≡ total_line n

-- The text is the listing of some counts, one a class, each a 32-bit number.
pub record ListingOfCounts (settings : Given) (text : List ℕ) : Type 0 where
  pub counts : List ℕ
  pub one_a_class : length counts ≡ class_count settings
  pub small : (i : ℕ) → get_or counts i 0 < 4294967296
  pub is : text ≡ listing_of settings counts
