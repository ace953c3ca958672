-- Laws of tests: a value that a test decides, tests that are equal, and what is so of a number past the test for 0.
use mathlib.Core.Path.{◌≡◌, refl, sym}
use mathlib.Core.Bool.{Bool, true, false, cond}
use Prim.Native.Nat.{ℕ, zero, suc}

-- What both sides of a test have, its value has.
pub by_test : {A : Type 0} (P : A → Type 0) (b : Bool) {x y : A} → (b ≡ true → P x) → (b ≡ false → P y) → P (cond b x y)
by_test P true f g = f refl
by_test P false f g = g refl

-- Two tests of which each holds where the other does are equal.
pub bool_ext : (x y : Bool) → (x ≡ true → y ≡ true) → (y ≡ true → x ≡ true) → x ≡ y
bool_ext true y h g = sym (h refl)
bool_ext false true h g = g refl
bool_ext false false h g = refl

-- What is so of every number that is one more than another is so of every number other than 0.
pub past_zero : (P : ℕ → Type 0) → ((n : ℕ) → P (suc n)) → (n : ℕ) → (n ≡ 0 → ⊥) → P n
past_zero P f zero d = absurd (d refl)
past_zero P f (suc n) d = f n
