-- The line of a class and the total: as we print them each is one line and has its shape, and just the lines that we print for some word and number have it
-- (`count_shaped`, `total_shaped`). From the laws of numbers in decimal.
use Rattle.std.proofs.Common.{◌≡◌, refl, ap, subst, ◌∙◌, true, false, ◌&&◌, ◌↔◌, List, ◌++◌, append_assoc, ℕ, ◌+◌, ◌-◌, arith, length, length-append, take_at, drop_at, eqb, eqb-true, eq-eqb}
use mathlib.Core.Bool.{and-eq-true_iff}
use Rattle.laws.specs.Text.{bytes}
use Rattle.settings.specs.Settings.{is_in}
use Rattle.lines.proofs.Lines.{Ended}
use Rattle.texts.specs.Decimals.{decimal}
use Rattle.survey.specs.Grammar.{spelt}
use Rattle.tally_book.specs.Book.{same_word}
use Rattle.tally_book.proofs.WordLists.{same_word_lem, word_same}
use Rattle.listing.specs.Listing.{count_line, total_line}
use Rattle.loading.specs.Shapes.{same_text, inner, is_number, of_letters, word_in, digits_in, count_shape, is_count_line, is_total_line}
use Rattle.loading.specs.Claims.{CountShape, TotalShape}
use Rattle.loading.proofs.Lines.{ended_by, past}
use Rattle.loading.proofs.Numbers.{number_is_decimal, decimal-is_number, decimal-no_lf}

-- What stands between a front and a back of these lengths.
pub inner-is : (a d b : List ℕ) (front back : ℕ) → length a ≡ front → length b ≡ back → inner front back (a ++ (d ++ b)) ≡ d
inner-is a d b front back h g =
    let n : length (a ++ (d ++ b)) - (front + back) ≡ length d = omega (arith, length-append a (d ++ b), length-append d b) in
    rw (n, drop_at a (d ++ b) front h) (take_at d b (length d) refl)

-- ---- the line of a class

module _ (k : ℕ) (word digits : List ℕ) (h : length word ≡ k) where
  pub word_in_lem : word_in k (count_shape word digits) ≡ word
  word_in_lem = take_at word (bytes " " ++ (digits ++ bytes ")\n")) k h

  pub digits_in_lem : digits_in k (count_shape word digits) ≡ digits
  digits_in_lem =
      let front = bytes "(count " ++ (word ++ bytes " ") in
      let regrouped : count_shape word digits ≡ front ++ (digits ++ bytes ")\n") = simp append_assoc in
      ap (inner (8 + k) 2) regrouped ∙ (inner-is front digits (bytes ")\n") (8 + k) 2 (omega (arith, length-append word (bytes " "))) refl)

  pub count_shape_lem : (letters : List ℕ) → of_letters letters word ≡ true → is_number digits ≡ true → is_count_line letters k (count_shape word digits) ≡ true
  unfolding is_count_line
  count_shape_lem letters o n = rw (word_in_lem, digits_in_lem, same_word_lem (count_shape word digits), eq-eqb (length word) k h, o, n)

  pub count_no_total : is_total_line (count_shape word digits) ≡ false
  unfolding is_total_line same_word
  count_no_total = refl

-- What the line of a class is made of.
pub record CountParts (letters : List ℕ) (k : ℕ) (l : List ℕ) : Type 0 where
  pub word_long : length (word_in k l) ≡ k
  pub letters_only : of_letters letters (word_in k l) ≡ true
  pub is : l ≡ count_line (word_in k l) (spelt 0 (digits_in k l))

pub count_parts : (letters : List ℕ) (k : ℕ) (l : List ℕ) → is_count_line letters k l ≡ true → CountParts letters k l
unfolding is_count_line count_line
count_parts letters k l e =
    let a = (and-eq-true_iff (same_text l (count_shape (word_in k l) (digits_in k l)))
    (eqb (length (word_in k l)) k && (of_letters letters (word_in k l) && is_number (digits_in k l)))).0 e in
    let b = (and-eq-true_iff (eqb (length (word_in k l)) k) (of_letters letters (word_in k l) && is_number (digits_in k l))).0 a.1 in
    let c = (and-eq-true_iff (of_letters letters (word_in k l)) (is_number (digits_in k l))).0 b.1 in
    record {
      word_long = eqb-true (length (word_in k l)) k b.0;
      letters_only = c.0;
      is = word_same l (count_shape (word_in k l) (digits_in k l)) a.0 ∙ ap (count_shape (word_in k l)) (number_is_decimal (digits_in k l) c.1);
    }

-- Just the lines of words of k letters of the settings and of numbers have the shape.
pub count_shaped : (letters : List ℕ) (k : ℕ) (l : List ℕ) → (is_count_line letters k l ≡ true) ↔ CountShape letters k l
unfolding count_line
count_shaped letters k l = (
  λ e.
      let P = count_parts letters k l e in
      record { word = word_in k l; n = spelt 0 (digits_in k l); long = P.word_long; letters_only = P.letters_only; line = P.is },
  λ S. rw S.line (count_shape_lem k S.word (decimal S.n) S.long letters S.letters_only (decimal-is_number S.n).0),
)

pub count_one_line : (word : List ℕ) (n : ℕ) → is_in 10 word ≡ false → Ended (count_line word n)
unfolding count_line is_in
count_one_line word n e =
    let front = bytes "(count " ++ (word ++ (bytes " " ++ (decimal n ++ bytes ")"))) in
    let is : front ++ bytes "\n" ≡ count_shape word (decimal n) = simp append_assoc in
    subst Ended is (ended_by front (rw (past 10 word (bytes " " ++ (decimal n ++ bytes ")")) e, past 10 (decimal n) (bytes ")") (decimal-no_lf n))))

-- ---- the last line

pub total_shape : (n : ℕ) → is_total_line (total_line n) ≡ true
unfolding is_total_line total_line
total_shape n =
    let l = bytes "(total " ++ (decimal n ++ bytes ")\n") in
    rw (inner-is (bytes "(total ") (decimal n) (bytes ")\n") 7 2 refl refl, same_word_lem l, (decimal-is_number n).0)

-- Just the totals of numbers have the shape.
pub total_shaped : (l : List ℕ) → (is_total_line l ≡ true) ↔ TotalShape l
unfolding is_total_line total_line
total_shaped l = (
  λ e.
      let d = inner 7 2 l in
      let h = (and-eq-true_iff (same_text l (bytes "(total " ++ (d ++ bytes ")\n"))) (is_number d)).0 e in
      record {
        n = spelt 0 d;
        line = word_same l _ h.0 ∙ ap (λ (x : List ℕ). bytes "(total " ++ (x ++ bytes ")\n")) (number_is_decimal d h.1);
      },
  λ T. rw T.line (total_shape T.n),
)

pub total_one_line : (n : ℕ) → Ended (total_line n)
unfolding total_line is_in
total_one_line n =
    let front = bytes "(total " ++ (decimal n ++ bytes ")") in
    let is : front ++ bytes "\n" ≡ bytes "(total " ++ (decimal n ++ bytes ")\n") = simp append_assoc in
    subst Ended is (ended_by front (rw (past 10 (decimal n) (bytes ")") (decimal-no_lf n))))
