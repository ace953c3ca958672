-- The lines of a listing one by one: the line of a class and its word, the lines by rising code,
-- the sum of the counts. From the definitions in specs/Listing.antt, and what `word_of` promises.
use Rattle.std.proofs.Common.{◌≡◌, refl, sym, ◌∙◌, ℕ, ◌+◌, ◌<◌, ◌≤◌, add-one, arith, None, List, [], ◌∷◌, ◌++◌, length, take, drop, get_or, drop_of_length-le, drop-cons}
use Rattle.std.specs.List.{sum_by}
use Rattle.std.proofs.lemmas.List.Sums.{sum_by-cons}
use Rattle.laws.proofs.Tests.{past_zero}
use Rattle.laws.proofs.Sums.{AddsUp}
use Rattle.laws.proofs.Buffers.{front_is, front_fits}
use Rattle.settings.specs.Grounds.{Outcome, Overwrites}
use Rattle.settings.specs.Settings.{settings_ground}
use Rattle.settings.proofs.SettingsGrounds.{good_settings}
use Rattle.encoding.specs.Calls.{read_ground, word_bytes}
use Rattle.words.proofs.CallGrounds.{reading_none}
use Rattle.words.proofs.ReadAnswers.{word_bytes_length}
use Rattle.tally_book.specs.Table.{class_count}
use Rattle.tally_book.specs.Demand.{sum}
use Rattle.listing.specs.Listing.{count_line, class_line, count_lines}
use Rattle.settings.specs.Given.{the_settings}

-- ---- one line

pub counted_line : (word : List ℕ) (n : ℕ) → (n ≡ 0 → ⊥) → class_line word n ≡ count_line word n
counted_line word = past_zero (λ (n : ℕ). class_line word n ≡ count_line word n) (λ n. refl)

-- A buffer that starts with the canonical word of code q.
pub record HoldsWord (letters : List ℕ) (k m q : ℕ) (buffer : List ℕ) : Type 0 where
  pub start : take k buffer ≡ word_bytes (the_settings letters k m) q
  pub long : k ≤ length buffer

-- Reading a code leaves its word at the start of a buffer that has room for any word.
pub word_read : {letters : List ℕ} {k m q : ℕ} {answer : Outcome ℕ} {old new : List ℕ} → settings_ground (the_settings letters k m) ≡ None
    → q < class_count (the_settings letters k m)
    → 62 ≤ length old
    → Overwrites (read_ground (the_settings letters k m) q (length old)) k (word_bytes (the_settings letters k m) q) old answer new
    → HoldsWord letters k m q new
word_read {letters} {k} {m} {q} {answer} {old} {new} good below room O =
    let fits : k ≤ length old = omega (arith, (good_settings letters k m good).short_k) in
    let word = word_bytes_length letters k m q good below in
    let holds : new ≡ word_bytes (the_settings letters k m) q ++ drop (length (word_bytes (the_settings letters k m) q)) old =
    O.leaves ∙ rw (reading_none letters k m good q (length old) fits below) in
    record { start = front_is (word_bytes (the_settings letters k m) q) _ holds word; long = front_fits (word_bytes (the_settings letters k m) q) _ holds word }

-- ---- the lines by rising code

module _ (word : ℕ → List ℕ) where
  -- The lines from a class on begin with its own.
  pub lines_first : (counts : List ℕ) (q : ℕ) → q < length counts
      → count_lines word q (drop q counts) ≡ class_line (word q) (get_or counts q 0) ++ count_lines word (q + 1) (drop (q + 1) counts)
  unfolding count_lines
  lines_first counts q h = rw (add-one q, drop-cons counts q 0 h)

  pub no_lines : (counts : List ℕ) (q : ℕ) → length counts ≤ q → count_lines word q (drop q counts) ≡ []
  unfolding count_lines
  no_lines counts q h = rw (drop_of_length-le counts h)

-- ---- the sum of the counts

-- Each count has itself as its share of the sum.
pub counts-add-up : AddsUp (λ (n : ℕ). n) sum
unfolding sum
counts-add-up = record { none = refl; more = λ x xs. refl }

-- std's sum of shares is what adds them up.
pub sum_by_is : {f : ℕ → ℕ} {g : List ℕ → ℕ} → AddsUp f g → (xs : List ℕ) → sum_by f xs ≡ g xs
sum_by_is A [] = sym A.none
sum_by_is {f} A (x ∷ xs) = omega (arith, sum_by-cons f x xs, sum_by_is A xs, A.more x xs)
