-- A letter of the settings is read as itself and found at its own place, which is its rank (`rank_at_lem`). From the letters being different capitals, as settings that
-- pass the check have them.
use mathlib.Core.Path.{◌≡◌, refl, sym, ap, subst, ◌∙◌}
use mathlib.Core.Bool.{Bool, true, false, not, ◌&&◌, ◌||◌, cond, and-eq-true_iff, false≢true}
use Rattle.std.specs.Prelude.{None, Some}
use mathlib.Core.List.{List, [], ◌∷◌}
use Prim.Native.Nat.{ℕ, zero, suc, ◌+◌, ◌≤◌, ◌<◌}
use native.Mathlib.Omega.{arith}
use lib.ListN.{length, get_or}
use lib.Dec.{leb, eqb}
use borrow.Author.Tests.{leb-true, lt-leb, eqb-true, eqb-false, eq-eqb, ne_eqb, not-true}
use Rattle.settings.specs.Settings.{is_capital, is_in, different_capitals, capital_of, place_from, read_as, rank_in, settings_ground}
use Rattle.settings.proofs.Letters.{some_letters}
use Rattle.settings.proofs.Ranks.{with_U, read_own, read_other}
use Rattle.settings.proofs.SettingsGrounds.{good_settings}
use Rattle.settings.specs.Given.{the_settings}

-- Each of different capitals is a capital.
pub in_capital : (b : ℕ) (ls : List ℕ) → different_capitals ls ≡ true → is_in b ls ≡ true → (65 ≤ b) × (b ≤ 90)
unfolding different_capitals is_capital is_in
in_capital b [] e i = absurd (false≢true i)
in_capital b (l ∷ ls) e i =
    let first = (and-eq-true_iff (leb 65 l && leb l 90) (not (is_in l ls) && different_capitals ls)).0 e in
    let ends = (and-eq-true_iff (leb 65 l) (leb l 90)).0 first.0 in
    let others = ((and-eq-true_iff (not (is_in l ls)) (different_capitals ls)).0 first.1).1 in
    go (eqb l b) refl i (leb-true 65 l ends.0, leb-true l 90 ends.1) (in_capital b ls others)
  where
    go : (t : Bool) → eqb l b ≡ t → (t || is_in b ls) ≡ true → (65 ≤ l) × (l ≤ 90)
        → (is_in b ls ≡ true → (65 ≤ b) × (b ≤ 90)) → (65 ≤ b) × (b ≤ 90)
    go true f g h ih = rw (eqb-true l b f) at h
    go false f g h ih = ih g

-- A capital counts as itself.
capital_own : (b : ℕ) → b ≤ 90 → capital_of b ≡ b
unfolding capital_of
capital_own b h = rw (lt-leb 97 b (omega arith))

-- The letter at the place where a byte is found is the byte.
pub found : (n b : ℕ) (ls : List ℕ) → is_in b ls ≡ true → (p : ℕ) × (place_from n b ls ≡ Some (n + p)) × (get_or ls p 0 ≡ b)
unfolding is_in place_from
found n b [] i = absurd (false≢true i)
found n b (l ∷ ls) i = go (eqb l b) refl i (found (suc n) b ls)
  where
    go : (t : Bool) → eqb l b ≡ t → (t || is_in b ls) ≡ true
        → (is_in b ls ≡ true → (p : ℕ) × (place_from (suc n) b ls ≡ Some (suc n + p)) × (get_or ls p 0 ≡ b))
        → (p : ℕ) × (cond t (Some n) (place_from (suc n) b ls) ≡ Some (n + p)) × (get_or (l ∷ ls) p 0 ≡ b)
    go true f g ih = (0, ap (λ (x : ℕ). Some x) (omega arith), eqb-true l b f)
    go false f g ih = let (p, e, h) = ih g in (suc p, e ∙ ap (λ (x : ℕ). Some x) (omega arith), h)

-- The letter at a place is among the letters.
pub in_at : (ls : List ℕ) (i : ℕ) → i < length ls → is_in (get_or ls i 0) ls ≡ true
unfolding is_in
in_at [] i h = absurd (omega arith)
in_at (l ∷ ls) zero h = rw (eq-eqb l l refl)
in_at (l ∷ ls) (suc i) h = go (eqb l (get_or ls i 0)) (in_at ls i (omega arith))
  where
    go : (t : Bool) → is_in (get_or ls i 0) ls ≡ true → (t || is_in (get_or ls i 0) ls) ≡ true
    go true e = refl
    go false e = e

-- Each of different letters is found at its own place.
own_place : (n : ℕ) (ls : List ℕ) (i : ℕ) → different_capitals ls ≡ true → i < length ls → place_from n (get_or ls i 0) ls ≡ Some (n + i)
unfolding place_from different_capitals
own_place n [] i e h = absurd (omega arith)
own_place n (l ∷ ls) zero e h = rw (eq-eqb l l refl) (ap (λ (x : ℕ). Some x) (omega arith))
own_place n (l ∷ ls) (suc i) e h =
    let rest = (and-eq-true_iff (not (is_in l ls)) (different_capitals ls)).0
    ((and-eq-true_iff (is_capital l) (not (is_in l ls) && different_capitals ls)).0 e).1 in
    let other : (l ≡ get_or ls i 0) → ⊥ = λ s.
    false≢true (sym (not-true (is_in l ls) rest.0) ∙ ap (λ (x : ℕ). is_in x ls) s ∙ in_at ls i (omega arith)) in
    rw (ne_eqb l (get_or ls i 0) other) (own_place (suc n) ls i rest.1 (omega arith) ∙ ap (λ (x : ℕ). Some x) (omega arith))

module _ (letters : List ℕ) (capitals : different_capitals letters ≡ true) where
  -- A letter of the settings is read as itself, U too where it is one.
  pub read_capital : (b : ℕ) → is_in b letters ≡ true → read_as letters b ≡ b
  read_capital b i =
      let own = capital_own b (in_capital b letters capitals i).1 in
      go own (eqb b 85) refl
    where
      go : capital_of b ≡ b → (t : Bool) → eqb b 85 ≡ t → read_as letters b ≡ b
      go own true e =
          let u = subst (λ (x : ℕ). is_in x letters ≡ true) (eqb-true b 85 e) i in
          sym (read_own letters b (with_U letters (sym u))) ∙ own
      go own false e = sym (read_other letters b (λ z. eqb-false b 85 e (sym own ∙ z))) ∙ own

  -- The letter of a rank has that rank.
  pub rank_at_lem : (i : ℕ) → i < length letters → rank_in letters (get_or letters i 0) ≡ Some i
  rank_at_lem i h = rw (read_capital (get_or letters i 0) (in_at letters i h)) (own_place 0 letters i capitals h ∙ ap (λ (x : ℕ). Some x) (omega arith))

-- The letters of settings that pass the check are different capitals.
pub capitals_differ : (letters : List ℕ) (k m : ℕ) → settings_ground (the_settings letters k m) ≡ None → different_capitals letters ≡ true
capitals_differ letters k m good = let g = good_settings letters k m good in sym (some_letters letters g.two g.few) ∙ g.capitals
