-- The test of the letters by what is left of them: one turn of the loop of `good_letters`, and what good letters are.
use mathlib.Core.Path.{◌≡◌, refl, sym, ap, ◌∙◌}
use Prim.Native.Nat.{ℕ, ◌+◌, ◌<◌, ◌≤◌, min}
use native.Mathlib.Omega.{arith}
use native.Mathlib.Numerals.{add-one}
use mathlib.Core.Bool.{Bool, true, false, and-false, and-eq-true_iff, ◌&&◌, ◌||◌}
use mathlib.Core.List.{List, [], ◌∷◌}
use lib.ListN.{length, get_or, drop, drop_of_length-le}
use lib.Seq.{drop-cons}
use lib.Dec.{leb, eqb}
use Rattle.std.specs.List.{list_any, between}
use Rattle.std.proofs.lemmas.Slice.{between_to_end}
use Rattle.std.specs.Char.{is_ascii_uppercase}
use borrow.Author.Tests.{le-leb, lt-leb, leb-true, leb-false}
use Rattle.settings.specs.Settings.{is_in, is_capital, different_capitals, good_letters}

-- Whether b is in a list, as std's `contains` searches for it.
pub any_is_in : (b : ℕ) (ls : List ℕ) → list_any (λ x. eqb x b) ls ≡ is_in b ls
unfolding is_in
any_is_in b [] = refl
any_is_in b (l ∷ ls) = ap (λ (t : Bool). eqb l b || t) (any_is_in b ls)

-- The letters from a place on, as a slice from it or from their end, whichever comes first.
pub left_from : (l : List ℕ) (from : ℕ) {m : ℕ} → m ≡ min from (length l) → between m (length l) l ≡ drop from l
left_from l from {m} e =
    between_to_end l m (length l) (omega arith) ∙ go (leb from (length l)) refl
  where
    go : (b : Bool) → leb from (length l) ≡ b → drop m l ≡ drop from l
    go true h = ap (λ (i : ℕ). drop i l) (omega (arith, e, leb-true from (length l) h))
    go false h =
        drop_of_length-le l (omega (arith, e, leb-false from (length l) h)) ∙ sym (drop_of_length-le l (omega (arith, leb-false from (length l) h)))

-- A capital, as std tests it.
pub uppercase_capital : (b : ℕ) → is_ascii_uppercase b ≡ is_capital b
unfolding is_capital
uppercase_capital b = refl

module _ (l : List ℕ) (i : ℕ) where
  pub no_capital : i < length l → false ≡ is_capital (get_or l i 0) → false ≡ different_capitals (drop i l)
  unfolding different_capitals
  no_capital h e = rw (drop-cons l i 0 h, ← e)

  pub repeated : i < length l → true ≡ is_in (get_or l i 0) (drop (i + 1) l) → false ≡ different_capitals (drop i l)
  unfolding different_capitals
  repeated h g = rw (drop-cons l i 0 h, ← (add-one i), ← g, and-false (is_capital (get_or l i 0)))

  pub next_good : i < length l → true ≡ is_capital (get_or l i 0) → false ≡ is_in (get_or l i 0) (drop (i + 1) l)
      → different_capitals (drop i l) ≡ different_capitals (drop (i + 1) l)
  unfolding different_capitals
  next_good h g e =
      rw (drop-cons l i 0 h, ← (add-one i), ← g, ← e)
      (ap (λ (n : ℕ). different_capitals (drop n l)) (sym (add-one i)))

  pub all_good : length l ≤ i → true ≡ different_capitals (drop i l)
  unfolding different_capitals
  all_good h = rw (drop_of_length-le l h)

module _ (l : List ℕ) where
  pub too_few : length l < 2 → false ≡ good_letters l
  unfolding good_letters
  too_few h = rw (lt-leb 2 (length l) h)

  pub too_many_lem : 16 < length l → false ≡ good_letters l
  unfolding good_letters
  too_many_lem h = rw (lt-leb (length l) 16 h, and-false (leb 2 (length l)))

  pub some_letters : 2 ≤ length l → length l ≤ 16 → good_letters l ≡ different_capitals l
  unfolding good_letters
  some_letters h g = rw (le-leb 2 (length l) h, le-leb (length l) 16 g)

  -- The tests of the length of good letters.
  module _ (good : true ≡ good_letters l) where
    tests : (leb 2 (length l) ≡ true) × (leb (length l) 16 ≡ true)
    unfolding good_letters
    tests =
        let rest = (and-eq-true_iff (leb 2 (length l)) (leb (length l) 16 && different_capitals l)).0 (sym good) in
        (rest.0, ((and-eq-true_iff (leb (length l) 16) (different_capitals l)).0 rest.1).0)

    pub good_at_least : 2 ≤ length l
    good_at_least = leb-true 2 (length l) tests.0

    pub good_at_most : length l ≤ 16
    good_at_most = leb-true (length l) 16 tests.1
