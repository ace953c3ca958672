-- The grounds 1, 2 and 4 one after the other, as `check` meets them; and what is known of settings to which none of them applies.
use mathlib.Core.Path.{◌≡◌, sym, ap}
use mathlib.Core.Bool.{false, true, not}
use Rattle.std.specs.Prelude.{None}
use mathlib.Core.List.{List}
use Prim.Native.Nat.{ℕ, ◌<◌, ◌≤◌, ◌^◌}
use native.Mathlib.Omega.{arith}
use borrow.Author.Tests.{not-false, ltb-false, eqb-false}
use lib.Dec.{ltb, eqb}
use lib.ListN.{length}
use mathlib.Mathlib.Data.Bool.Basic.{or-eq-false-eq-eq-false-and-eq-false}
use Rattle.laws.proofs.Powers.{exponent_le}
use Rattle.settings.specs.Grounds.{Ground, ground, refused, outcome, given}
use Rattle.settings.specs.Limits.{Limits}
use Rattle.settings.specs.Settings.{good_letters, settings_ground, settings_of, bad_size, settings_for, mirror_of, classes}
use Rattle.settings.proofs.Letters.{good_at_least, good_at_most}
use Rattle.settings.proofs.Outcomes.{later_none, test_fails, first_none, passed, refused_on}
use Rattle.settings.specs.declared.Mirror.{Mirror}
use Rattle.settings.specs.declared.Checked.{Checked}
use Rattle.settings.specs.Given.{the_settings}

module _ (l : List ℕ) (k m : ℕ) where
  pub ground_1 : false ≡ good_letters l → refused (1, 0) ≡ outcome (settings_ground (the_settings l k m)) (settings_of (the_settings l k m))
  unfolding settings_ground
  ground_1 e = rw (← e)

  pub mirror_refused : (f : Ground) → true ≡ good_letters l → refused f ≡ outcome (ground 2 (ltb 1 m)) (mirror_of m)
      → refused f ≡ outcome (settings_ground (the_settings l k m)) (settings_of (the_settings l k m))
  unfolding settings_ground
  mirror_refused f e h = rw (← e) (refused_on f (mirror_of m) (settings_of (the_settings l k m)) (ground 2 (ltb 1 m)) _ h)

  pub mirror_given : {x : Mirror} → true ≡ good_letters l → given x ≡ outcome (ground 2 (ltb 1 m)) (mirror_of m)
      → outcome (ground 4 (bad_size (length l) k)) (settings_for (length l) k x) ≡ outcome (settings_ground (the_settings l k m)) (settings_of (the_settings l k m))
  unfolding settings_ground
  mirror_given e h = let p = passed (mirror_of m) (ground 2 (ltb 1 m)) h in rw (← e, p.none_applies_lem, p.value)

-- ---- what holds where no ground applies

-- Settings within the limits of document 01.
pub record GoodSettings (l : List ℕ) (k m : ℕ) : Type 0 where
  pub capitals : good_letters l ≡ true
  pub two : 1 < length l
  pub few : length l ≤ 16
  pub low : m ≤ 1
  pub some_k : 1 ≤ k
  pub short_k : k ≤ 62
  pub small : length l ^ k ≤ 2 ^ 62

-- Settings to which no ground applies are good.
pub good_settings : (l : List ℕ) (k m : ℕ) → settings_ground (the_settings l k m) ≡ None → GoodSettings l k m
unfolding settings_ground bad_size
good_settings l k m e =
    let g2 = later_none (ground 1 (not (good_letters l))) _ e in
    let g4 = later_none (ground 2 (ltb 1 m)) _ g2 in
    let good : true ≡ good_letters l = sym (not-false (good_letters l) (test_fails 1 _ (first_none _ _ e))) in
    let size = (or-eq-false-eq-eq-false-and-eq-false (eqb k 0) (ltb (2 ^ 62) (length l ^ k))).0 (test_fails 4 _ g4) in
    let two = good_at_least l good in
    let small = ltb-false (2 ^ 62) (length l ^ k) size.1 in
    record {
      capitals = sym good;
      two = two;
      few = good_at_most l good;
      low = ltb-false 1 m (test_fails 2 _ (first_none _ _ g2));
      some_k = let k-not-0 : k ≡ 0 → ⊥ = eqb-false k 0 size.0 in omega arith;
      short_k = exponent_le (length l) k two small;
      small = small;
    }

-- Settings that pass the check are within the limits.
pub limits : (l : List ℕ) (k m : ℕ) → settings_ground (the_settings l k m) ≡ None → Limits (length l) k
limits l k m e =
    let g = good_settings l k m e in
    record { two = g.two; few = g.few; small = g.small }

-- What a call knows of settings that the check gave.
pub record Known (l : List ℕ) (k m : ℕ) (st : Checked) : Type 0 where
  pub none_applies_lem : settings_ground (the_settings l k m) ≡ None
  pub mirror_is : st.mirror ≡ mirror_of m
  pub classes_are : st.classes ≡ classes (length l) (mirror_of m) k
  pub within : Limits (length l) k

-- What the check gives is so known.
pub known : (l : List ℕ) (k m : ℕ) (st : Checked) → given st ≡ outcome (settings_ground (the_settings l k m)) (settings_of (the_settings l k m)) → Known l k m st
known l k m st e =
    let p = passed (settings_of (the_settings l k m)) (settings_ground (the_settings l k m)) e in
    record {
      none_applies_lem = p.none_applies_lem;
      mirror_is = ap (λ (x : Checked). x.mirror) p.value;
      classes_are = ap (λ (x : Checked). x.classes) p.value;
      within = limits l k m p.none_applies_lem;
    }
