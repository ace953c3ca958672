-- Two-bit numbers from one window to the next: the letters before the first window's last, then a letter in and one out by a shift and a mask.
use Rattle.std.proofs.Common.{◌≡◌, refl, sym, ap, ◌∙◌, List, ℕ, suc, ◌+◌, ◌-◌, ◌*◌, ◌%◌, ◌^◌, ◌<◌, ◌≤◌, add-one, arith, length, get_or, take, lt_of_lt_of_le, mod-eq_of_lt, mod-lt, pow-suc, take_all}
use native.Mathlib.Nat.{one-le-pow}
use lib.Arith.{digits_mod}
use Rattle.encoding.specs.Words.{Ranks, plain}
use Rattle.encoding.specs.WordsOfCodes.{word_of_plain}
use Rattle.encoding.proofs.Plain.{word_of_plain-plain}
use Rattle.ranks.specs.Needs.{part}
use Rattle.ranks.proofs.WordParts.{ranks_part, length_part}
use Rattle.windows.proofs.Lasts.{lasts, last_at, last_inside}
use Rattle.windows.proofs.Parts.{part_lt, plain_more, plain_first}
use Rattle.two_bit.proofs.TwoRanks.{four_fits}

-- ---- the first letters, one by one

module _ (letters : List ℕ) (ranks : Ranks 4 letters) (few : length letters ≤ 31) {i : ℕ} {x : ℕ} (ahead : x ≡ plain 4 (take i letters)) where
  pub first_more : i < length letters → x * 4 + get_or letters i 0 ≡ plain 4 (take (i + 1) letters)
  first_more more = let place : 0 + i ≡ i = omega arith in rw (add-one i, ahead) (sym (plain_more 4 0 i letters (omega arith) ∙ rw place))

  pub first_fits : i < length letters → x * 4 + get_or letters i 0 < 2 ^ 62
  first_fits more = rw (first_more more) (lt_of_lt_of_le (part_lt 4 0 (i + 1) letters ranks (omega arith)) (four_fits (i + 1) (omega arith)))

pub first_none : (letters : List ℕ) → 0 ≡ plain 4 (take 0 letters)
unfolding plain
first_none letters = refl

pub first_all : (letters : List ℕ) {i x : ℕ} → x ≡ plain 4 (take i letters) → length letters ≤ i → x ≡ plain 4 letters
first_all letters {i} ahead all = ahead ∙ ap (plain 4) (take_all i letters all)

-- ---- from one window to the next

pub next_fits : {k : ℕ} → 1 ≤ k → k ≤ 31 → (x : ℕ) {last : ℕ} → last < 4 → x % 4 ^ (k - 1) * 4 + last < 2 ^ 62
next_fits {k} some small x low =
    let k-is : k ≡ suc (k - 1) = omega arith in
    let rest : x % 4 ^ (k - 1) < 4 ^ (k - 1) = mod-lt x (one-le-pow (k - 1) 4 (omega arith)) in
    let power : 4 ^ k ≡ 4 ^ (k - 1) * 4 = ap (λ (n : ℕ). 4 ^ n) k-is ∙ pow-suc 4 (k - 1) in
    omega (arith, four_fits k small)

-- The k - 1 lowest letters of x are those of the window at j but for its last.
pub record Rolled (k : ℕ) (d : List ℕ) (j x : ℕ) : Type 0 where
  pub low : x % 4 ^ (k - 1) ≡ plain 4 (part j (k - 1) d)

module _ (k : ℕ) (some : 1 ≤ k) (d : List ℕ) (ranks : Ranks 4 d) where
  k_is : k ≡ suc (k - 1)
  k_is = omega arith

  pub rolled_first : {x : ℕ} → k ≤ length d → x ≡ plain 4 (take (k - 1) d) → Rolled k d 0 x
  rolled_first long ahead = record { low = rw ahead (mod-eq_of_lt (part_lt 4 0 (k - 1) d ranks (omega arith))) }

  module _ (j : ℕ) (inside : j + k ≤ length d) where
    module _ (x : ℕ) {y : ℕ} (rolled : Rolled k d j x) (next : y ≡ x % 4 ^ (k - 1) * 4 + get_or (lasts k d) j 0) where
      window_rank : y ≡ plain 4 (part j k d)
      window_rank =
          let place : j + k - 1 ≡ j + (k - 1) = omega arith in
          next ∙ rw (rolled.low, last_at k d some j, place) (sym (ap (λ (n : ℕ). plain 4 (part j n d)) k_is ∙ plain_more 4 j (k - 1) d (omega arith)))

      window_below : y < 4 ^ k
      window_below = rw window_rank (part_lt 4 j k d ranks inside)

      -- The word with that plain rank is the window.
      window_is : word_of_plain 4 k y ≡ part j k d
      window_is =
          let two : 1 < 4 = omega arith in
          ap (word_of_plain 4 k) window_rank ∙ word_of_plain-plain 4 k (part j k d) two (length_part j k d inside) (ranks_part 4 j k d ranks)

      rolled_next : Rolled k d (j + 1) y
      rolled_next =
          let split = window_rank ∙ ap (λ (n : ℕ). plain 4 (part j n d)) k_is ∙ plain_first 4 j (k - 1) d (omega arith) in
          record { low = rw (split, add-one j) (digits_mod (get_or d j 0) (part_lt 4 (suc j) (k - 1) d ranks (omega arith))) }

-- What a turn of the loop over the last letters has, j being the window's place and y what it rolled on to.
pub record Step (k : ℕ) (d : List ℕ) (j y : ℕ) : Type 0 where
  pub inside : j + k ≤ length d
  pub below : y < 4 ^ k
  pub word : word_of_plain 4 k y ≡ part j k d
  pub rolled : Rolled k d (j + 1) y

pub step : {k : ℕ} {d : List ℕ} → 1 ≤ k → Ranks 4 d → k ≤ length d → {j x y : ℕ} → j < length (lasts k d) → Rolled k d j x
    → y ≡ x % 4 ^ (k - 1) * 4 + get_or (lasts k d) j 0
    → Step k d j y
step {k} {d} some ranks long {j} {x} turn rolled next =
    let inside : j + k ≤ length d = last_inside k d some long turn in
    record {
      inside = inside;
      below = window_below k some d ranks j inside x rolled next;
      word = window_is k some d ranks j inside x rolled next;
      rolled = rolled_next k some d ranks j inside x rolled next;
    }
