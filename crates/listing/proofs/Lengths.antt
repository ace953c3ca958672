-- How long a listing is: as long as its lines, and no longer than `longest` has it. So the length that ground 7 asks for stands beside
-- the number of a ground in 64 bits. From the definitions of the lines, the lengths of words and decimals, and the limits of the settings.
use Rattle.std.proofs.Common.{◌≡◌, refl, ℕ, zero, suc, ◌+◌, ◌*◌, ◌<◌, ◌≤◌, arith, List, [], ◌∷◌, length, get_or, length-append}
use Rattle.laws.proofs.Sums.{AddsUp, sum_le}
use Rattle.settings.proofs.SettingsGrounds.{good_settings}
use Rattle.encoding.specs.Calls.{word_bytes}
use Rattle.words.proofs.ReadAnswers.{word_bytes_length}
use Rattle.tally_book.specs.Table.{class_count}
use Rattle.tally_book.specs.Demand.{sum}
use Rattle.texts.proofs.Decimals.{decimal-length}
use Rattle.texts.specs.declared.Writer.{Writer}
use Rattle.texts.specs.Needs.{Writes}
use Rattle.texts.proofs.Writing.{then}
use Rattle.survey.specs.Line.{mirror_name, survey_line}
use Rattle.listing.specs.Listing.{count_line, class_line, count_lines, total_line, listing_of}
use Rattle.listing.specs.Needs.{AllCounts, line_length, lines_length, longest}
use Rattle.listing.proofs.Lines.{counts-add-up}
use Rattle.settings.specs.Given.{the_settings}

-- Each of some numbers fits 32 bits.
abbrev pub SmallCounts : List ℕ → Type 0
SmallCounts xs = (i : ℕ) → get_or xs i 0 < 4294967296

line_is : (k : ℕ) (w : List ℕ) (n : ℕ) → length w ≡ k → length (class_line w n) ≡ line_length k n
unfolding count_line
line_is k w zero h = refl
line_is k w (suc n) h = simp length-append (omega (arith, h))

lines_are : (k : ℕ) (word : ℕ → List ℕ) (n : ℕ) → ((q : ℕ) → q < n → length (word q) ≡ k) → (q : ℕ) (counts : List ℕ) → q + length counts ≤ n
    → length (count_lines word q counts) ≡ lines_length k counts
unfolding count_lines lines_length
lines_are k word n w q [] l = refl
lines_are k word n w q (x ∷ counts) l =
    omega (
      arith,
      length-append (class_line (word q) x) (count_lines word (suc q) counts),
      line_is k (word q) x (w q (omega arith)),
      lines_are k word n w (suc q) counts (omega arith),
    )

pub line_short : (k n : ℕ) → k ≤ 62 → n < 4294967296 → line_length k n ≤ 82
line_short k zero h g = omega arith
line_short k (suc n) h g = omega (arith, decimal-length 9 (suc n) (omega arith))

-- Each count has the length of its line as its share of the length of all lines.
pub lines-add-up : (k : ℕ) → AddsUp (line_length k) (lines_length k)
unfolding lines_length
lines-add-up k = record { none = refl; more = λ n counts. refl }

mirror-length : (m : ℕ) → length (mirror_name m) ≤ 10
mirror-length zero = omega arith
mirror-length (suc m) = omega arith

pub survey_length : (letters : List ℕ) (k m : ℕ) → length letters ≤ 16 → k ≤ 62 → class_count (the_settings letters k m) ≤ 16777216 → length (survey_line (the_settings letters k m)) ≤ 83
unfolding survey_line
survey_length letters k m h g few =
    simp length-append
    (omega (arith, decimal-length 1 k (omega arith), mirror-length m, decimal-length 7 (class_count (the_settings letters k m)) (omega (arith, few))))

total_length : (n : ℕ) → n < 10000000000000000000 → length (total_line n) ≤ 28
unfolding total_line
total_length n h = simp length-append (omega (arith, decimal-length 18 n (omega arith)))

module _ (letters : List ℕ) (k m : ℕ) (counts : List ℕ) (A : AllCounts (the_settings letters k m) counts) where
  -- A listing is as long as its lines.
  listing_is : length (listing_of (the_settings letters k m) counts)
      ≡ length (survey_line (the_settings letters k m)) + lines_length k counts + length (total_line (sum counts))
  unfolding listing_of
  listing_is =
      let lines =
      lines_are k (word_bytes (the_settings letters k m)) (class_count (the_settings letters k m)) (λ q below. word_bytes_length letters k m q A.good below) 0 counts
      (omega (arith, A.one_a_class)) in
      simp length-append (omega (arith, lines))

  survey_short : length (survey_line (the_settings letters k m)) ≤ 83
  survey_short =
      let g = good_settings letters k m A.good in
      survey_length letters k m g.few g.short_k (omega (arith, A.one_a_class, A.few))

  module _ (small : SmallCounts counts) where
    total_short : length (total_line (sum counts)) ≤ 28
    total_short = total_length (sum counts) (omega (arith, sum_le counts-add-up 4294967296 counts (λ i. omega (arith, small i)), A.few))

    all_lines_short : lines_length k counts ≤ 82 * length counts
    all_lines_short =
        let short = (good_settings letters k m A.good).short_k in
        sum_le (lines-add-up k) 82 counts (λ i. line_short k (get_or counts i 0) short (small i))

    pub listing_length : length (listing_of (the_settings letters k m) counts) ≤ longest (length counts)
    listing_length = omega (arith, listing_is, survey_short, all_lines_short, total_short)

    -- The place after the survey line and the total, written from the start one after the other, and the length of the lines between: their sum is the
    -- length of the listing, and not too large.
    pub parts_are : {u v w : Writer} {lines : ℕ} → u.at ≡ 0 → Writes u v (survey_line (the_settings letters k m)) → Writes v w (total_line (sum counts))
        → lines ≡ lines_length k counts
        → (w.at + lines ≡ length (listing_of (the_settings letters k m) counts)) × (w.at + lines ≤ longest 16777216)
    parts_are start P Q lines =
        let a = (then P Q).puts.place in
        let b = length-append (survey_line (the_settings letters k m)) (total_line (sum counts)) in
        (omega (arith, a, b, lines, listing_is, survey_short, total_short), omega (arith, a, b, lines, survey_short, all_lines_short, total_short, A.few))
