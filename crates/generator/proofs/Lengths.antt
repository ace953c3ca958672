-- How long a test load is (`length-records`): each letter a byte, an LF for each line of 60, and the header. From the definition of the text.
use Rattle.std.proofs.Common.{◌≡◌, ℕ, zero, suc, ◌+◌, ◌-◌, ◌/◌, ◌<◌, ◌≤◌, Bool, true, false, cond, eqb, List, [], ◌∷◌, length, refl, add-one, arith, length-append, ne_eqb, eqb-true}
use borrow.Author.Tests.{eqb-false}
use Rattle.texts.specs.Decimals.{decimal}
use Rattle.testload.specs.TestLoad.{state_after, in_lines, drawn_letters, record_text, records_from}
use Rattle.testload.proofs.Drawn.{length-letters}
use Rattle.generator.specs.Needs.{record_length, records_length}

-- The letters from one on, of whose line j stand before it, and the ends of their lines.
length-lines : (j : ℕ) (ls : List ℕ) → j < 60 → length (in_lines j ls) ≡ length ls + (j + length ls + 59) / 60
unfolding in_lines
length-lines zero [] h = omega arith
length-lines (suc j) [] h = rw (ne_eqb (suc j) 0 (λ e. omega arith)) (omega arith)
length-lines j (b ∷ ls) h = go (eqb (suc j) 60) refl (length-lines 0 ls (omega arith)) (length-lines (suc j) ls)
  where
    go : (t : Bool) → eqb (suc j) 60 ≡ t → length (in_lines 0 ls) ≡ length ls + (0 + length ls + 59) / 60
        → (suc j < 60 → length (in_lines (suc j) ls) ≡ length ls + (suc j + length ls + 59) / 60)
        → suc (length (cond t (10 ∷ in_lines 0 ls) (in_lines (suc j) ls))) ≡ suc (length ls) + (j + suc (length ls) + 59) / 60
    go true e next-line same_line = omega (arith, eqb-true (suc j) 60 e, next-line)
    go false e next-line same_line = omega (arith, same_line (omega (arith, eqb-false (suc j) 60 e)))

length-record : (letters : List ℕ) (each i x : ℕ) → length (record_text letters each i x) ≡ record_length each i
unfolding record_text record_length
length-record letters each i x =
    let L = drawn_letters letters each x in
    omega (
      arith,
      length-append (62 ∷ decimal i) (10 ∷ in_lines 0 L),
      length-lines 0 L (omega arith),
      length-letters letters each x,
    )

pub length-records : (letters : List ℕ) (each i records x : ℕ) → length (records_from letters each i records x) ≡ records_length each i records
unfolding records_from records_length
length-records letters each i zero x = refl
length-records letters each i (suc records) x =
    omega (
      arith,
      length-append (record_text letters each i x) (records_from letters each (suc i) records (state_after each x)),
      length-record letters each i x,
      length-records letters each (suc i) records (state_after each x),
    )

-- With a record of more than 16,777,216 letters it is too long.
pub long_record : (each i records : ℕ) → 16777216 < each → 1 ≤ records → 16777216 < records_length each i records
unfolding records_length record_length
long_record each i zero h some_record = absurd (omega arith)
long_record each i (suc records) h some_record = omega arith

-- The lengths of the records behind the first i: that of the next one and of those behind it.
pub next-length : (each i records : ℕ) → i < records
    → records_length each (i + 1) (records - i) ≡ record_length each (i + 1) + records_length each (i + 1 + 1) (records - (i + 1))
unfolding records_length
next-length each i records h =
    let left : records - i ≡ suc (records - (i + 1)) = omega arith in
    rw (left, ← add-one (i + 1))

pub no_length : (each i records : ℕ) → records ≤ i → records_length each (i + 1) (records - i) ≡ 0
unfolding records_length
no_length each i records h = let none_left : records - i ≡ 0 = omega arith in rw none_left
