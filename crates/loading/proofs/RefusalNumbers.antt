-- What a refused load tells: its number is one of 1, 2, 4, 6, 7, 20, 21 and 22 (`load_numbers_lem`), and the P of 20, 21 and 22 is at most the text's length
-- (`load_place`). From the definitions of a load's grounds, line by line (`text_has`).
use Rattle.std.proofs.Common.{refl, ap, List, [], ◌∷◌, ℕ, ◌+◌, ◌≤◌, arith, length, length-append}
use Rattle.laws.proofs.Tests.{by_test}
use Rattle.settings.specs.Grounds.{Ground, ground_at}
use Rattle.settings.specs.Settings.{is_in, RefusedOnlyBy}
use Rattle.settings.proofs.FirstGround.{Has, none_has, some_has, then_has, NumberIn, in_behind, PlaceUpTo, Small}
use Rattle.lines.specs.Lines.{lines}
use Rattle.lines.specs.Needs.{joined}
use Rattle.lines.proofs.Lines.{joined-lines}
use Rattle.fastq.specs.Fastq.{unless_at}
use Rattle.fastq.proofs.Faults.{unless_has}
use Rattle.survey.specs.Line.{survey_line}
use Rattle.tally_book.specs.Table.{clear_ground}
use Rattle.tally_book.proofs.RefusalNumbers.{clear_numbers, clear_numbers_lem}
use Rattle.listing.specs.Listing.{total_line}
use Rattle.loading.specs.Shapes.{same_text, is_count_line, is_total_line, is_survey_line}
use Rattle.loading.specs.Loading.{good_count, Next, Survey, CountOrTotal, Nothing, next_after, line_fault, missing, load_fault, text_fault, load_ground}
use Rattle.settings.specs.Given.{the_settings}

-- What each ground of a text of n bytes has, its first ground has.
module _ (letters : List ℕ) (k m : ℕ) (Q : Ground → Type 0) (n : ℕ) (bad-line : (p : ℕ) → p ≤ n → Q (20, p)) (other-settings : (p : ℕ) → p ≤ n → Q (21, p))
    (bad_count : (p : ℕ) → p ≤ n → Q (22, p)) where
  line_has : (next : Next) (at : ℕ) (l : List ℕ) → at ≤ n → Has Q (line_fault (the_settings letters k m) next at l)
  unfolding line_fault
  line_has Survey at l h =
      then_has Q (ground_at 20 (unless_at (is_survey_line l) at)) _ (unless_has Q 20 bad-line (is_survey_line l) at h)
      (λ _. unless_has Q 21 other-settings (same_text l (survey_line (the_settings letters k m))) at h)
  line_has (CountOrTotal low sum) at l h =
      by_test (Has Q) (is_total_line l) (λ _. unless_has Q 22 bad_count (same_text l (total_line sum)) at h)
      (λ _. then_has Q (ground_at 20 (unless_at (is_count_line letters k l) at)) _ (unless_has Q 20 bad-line (is_count_line letters k l) at h)
      (λ _. unless_has Q 22 bad_count (good_count (the_settings letters k m) low l) at h))
  line_has Nothing at l h = some_has Q (20, at) (bad-line at h)

  missing_has : (next : Next) (at : ℕ) → at ≤ n → Has Q (missing next at)
  missing_has Survey at h = some_has Q (20, at) (bad-line at h)
  missing_has (CountOrTotal low sum) at h = some_has Q (20, at) (bad-line at h)
  missing_has Nothing at h = none_has Q

  lines_has : (next : Next) (at : ℕ) (ls : List (List ℕ)) → at + length (joined ls) ≤ n → Has Q (load_fault (the_settings letters k m) next at ls)
  unfolding load_fault joined
  lines_has next at [] h = missing_has next at (omega arith)
  lines_has next at (l ∷ ls) h =
      then_has Q (line_fault (the_settings letters k m) next at l) _ (line_has next at l (omega arith))
      (λ _. lines_has (next_after (the_settings letters k m) next l) (at + length l) ls (omega (arith, length-append l (joined ls))))

  text_has : (text : List ℕ) → length text ≤ n → Has Q (text_fault (the_settings letters k m) text)
  text_has text h = lines_has Survey 0 (lines text) (omega (arith, ap length (joined-lines text)))

-- The P of a text's ground is at most the text's length.
pub load_place : (letters : List ℕ) (k m : ℕ) (text : List ℕ) → Small (length text) (text_fault (the_settings letters k m) text)
load_place letters k m text = text_has letters k m (PlaceUpTo (length text)) (length text) (λ p h. h) (λ p h. h) (λ p h. h) text (omega arith)

-- The numbers of a refused load.
abbrev pub load_numbers : List ℕ
load_numbers = 20 ∷ 21 ∷ 22 ∷ clear_numbers

pub load_numbers_lem : (letters : List ℕ) (k m room : ℕ) (text : List ℕ) → RefusedOnlyBy load_numbers (load_ground (the_settings letters k m) room text)
unfolding is_in load_ground
load_numbers_lem letters k m room text =
    then_has (NumberIn load_numbers) (clear_ground (the_settings letters k m) room) (text_fault (the_settings letters k m) text)
    (λ f e. in_behind f.0 (20 ∷ 21 ∷ 22 ∷ []) clear_numbers (clear_numbers_lem letters k m room f e))
    (λ _. text_has letters k m (NumberIn load_numbers) (length text) (λ p h. refl) (λ p h. refl) (λ p h. refl) text (omega arith))
