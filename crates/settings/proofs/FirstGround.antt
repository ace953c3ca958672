-- What every ground of a call has, the first that applies has: a P of at most n, on which calls rest that put P into one number with their
-- answer; or a number that is one of a list.
use mathlib.Core.Path.{◌≡◌, refl, subst}
use mathlib.Core.Bool.{Bool, true, false, not, cond, or-true}
use Rattle.std.specs.Prelude.{Option, None, Some}
use mathlib.Core.List.{List, [], ◌∷◌, ◌++◌}
use Prim.Native.Nat.{ℕ, ◌≤◌}
use native.Mathlib.Omega.{arith}
use lib.Dec.{eqb, ltb}
use lib.ListN.{length}
use Rattle.settings.specs.Grounds.{Ground, ground, ground_at, too_short, ◌or_else◌}
use Rattle.settings.specs.Settings.{is_in, good_letters, bad_size, settings_ground, RefusedOnlyBy}
use Rattle.settings.specs.Given.{the_settings}

-- The ground that applies, where one does, has the property Q.
abbrev pub Has : (Ground → Type 0) → Option Ground → Type 0
Has Q g = (f : Ground) → g ≡ Some f → Q f

module _ (Q : Ground → Type 0) where
  pub none_has : Has Q None
  none_has f e = absurd (let z : ◌≡◌ {A = ℕ} 0 1 = cc in omega arith)

  pub some_has : (g : Ground) → Q g → Has Q (Some g)
  some_has g h f e = let z : g ≡ f = cc in subst Q z h

  pub test_has : (i : ℕ) (t : Bool) → Q (i, 0) → Has Q (ground i t)
  test_has i true h = some_has (i, 0) h
  test_has i false h = none_has

  pub place_has : (i : ℕ) (o : Option ℕ) → ((p : ℕ) → o ≡ Some p → Q (i, p)) → Has Q (ground_at i o)
  place_has i None h = none_has
  place_has i (Some p) h = some_has (i, p) (h p refl)

  -- The later grounds count only where the first does not apply.
  pub then_has : (g later : Option Ground) → Has Q g → (g ≡ None → Has Q later) → Has Q (g or_else later)
  then_has None later a b = b refl
  then_has (Some h) later a b = a

  -- The settings' grounds are 1, 2 and 4, with the P 0.
  pub settings_has : (letters : List ℕ) (k m : ℕ) → Q (1, 0) → Q (2, 0) → Q (4, 0) → Has Q (settings_ground (the_settings letters k m))
  unfolding settings_ground
  settings_has letters k m one two four =
      let g2 = ground 2 (ltb 1 m) in
      let g4 = ground 4 (bad_size (length letters) k) in
      then_has (ground 1 (not (good_letters letters))) (g2 or_else g4) (test_has 1 (not (good_letters letters)) one)
      (λ _. then_has g2 g4 (test_has 2 (ltb 1 m) two) (λ _. test_has 4 (bad_size (length letters) k) four))

  -- After these many calls have 6 by some test, then 7 for some length.
  pub sizes_has : (letters : List ℕ) (k m : ℕ) (large : Bool) (room needed : ℕ) → Q (1, 0) → Q (2, 0) → Q (4, 0) → Q (6, 0)
      → (settings_ground (the_settings letters k m) ≡ None → ground 6 large ≡ None → (p : ℕ) → too_short room needed ≡ Some p → Q (7, p))
      → Has Q (settings_ground (the_settings letters k m) or_else ground 6 large or_else ground_at 7 (too_short room needed))
  sizes_has letters k m large room needed one two four six seven =
      let g7 = ground_at 7 (too_short room needed) in
      then_has (settings_ground (the_settings letters k m)) (ground 6 large or_else g7) (settings_has letters k m one two four)
      (λ passed. then_has (ground 6 large) g7 (test_has 6 large six) (λ few. place_has 7 (too_short room needed) (seven passed few)))

-- ---- a number of a list, so that `Has (NumberIn ns)` is `RefusedOnlyBy ns`

abbrev pub NumberIn : List ℕ → Ground → Type 0
NumberIn ns f = is_in f.0 ns ≡ true

-- A number of a list is one of any longer list that ends in it.
pub in_behind : (i : ℕ) (ms ns : List ℕ) → is_in i ns ≡ true → is_in i (ms ++ ns) ≡ true
unfolding is_in
in_behind i [] ns e = e
in_behind i (m ∷ ms) ns e = rw (in_behind i ms ns e) (or-true (eqb m i))

-- Settings are refused 1, 2 or 4: "Refusal 3 then never occurs" (document 02, K10).
pub settings_numbers : (letters : List ℕ) (k m : ℕ) → RefusedOnlyBy (1 ∷ 2 ∷ 4 ∷ []) (settings_ground (the_settings letters k m))
unfolding is_in
settings_numbers letters k m = settings_has (NumberIn (1 ∷ 2 ∷ 4 ∷ [])) letters k m refl refl refl

-- ---- a P of at most n

abbrev pub PlaceUpTo : ℕ → Ground → Type 0
PlaceUpTo n f = f.1 ≤ n

abbrev pub Small : ℕ → Option Ground → Type 0
Small n g = Has (PlaceUpTo n) g

pub test_small : (n i : ℕ) (t : Bool) → Small n (ground i t)
test_small n i t = test_has (PlaceUpTo n) i t (omega arith)

pub place_small : (n i : ℕ) (o : Option ℕ) → ((p : ℕ) → o ≡ Some p → p ≤ n) → Small n (ground_at i o)
place_small n i o h = place_has (PlaceUpTo n) i o h

pub then_small : (n : ℕ) (g later : Option Ground) → Small n g → (g ≡ None → Small n later) → Small n (g or_else later)
then_small n g later a b = then_has (PlaceUpTo n) g later a b

pub settings_small : (letters : List ℕ) (k m n : ℕ) → Small n (settings_ground (the_settings letters k m))
settings_small letters k m n = settings_has (PlaceUpTo n) letters k m (omega arith) (omega arith) (omega arith)

-- The P of ground 7 is the length needed.
pub room_small : (room k : ℕ) → (p : ℕ) → too_short room k ≡ Some p → p ≤ k
room_small room k p e = go (ltb room k) e
  where
    go : (t : Bool) → cond t (Some k) None ≡ Some p → p ≤ k
    go true f = let z : k ≡ p = cc in omega arith
    go false f = absurd (let z : ◌≡◌ {A = ℕ} 0 1 = cc in omega arith)
