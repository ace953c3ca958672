-- How answers with grounds compose: a refusal stands whatever grounds come after it, and what is given means that no ground applies.
-- A refused call leaves its buffer as it was. From the definitions of specs/Grounds.antt alone.
use mathlib.Core.Path.{◌≡◌, refl, ap, ◌∙◌}
use mathlib.Core.Bool.{Bool, false, true, cond}
use Rattle.std.specs.Prelude.{Option, None, Some, Result}
use Rattle.std.specs.Result.{IsErrAnd}
use Rattle.std.proofs.lemmas.Result.{err_from_is_err_and}
use mathlib.Core.List.{List, [], ◌++◌, append-nil}
use Prim.Native.Nat.{ℕ, ◌≤◌}
use native.Mathlib.Omega.{arith}
use lib.ListN.{drop, length, take, drop_of_length-le, take-append-drop}
use lib.Seq.{length-take-le}
use lib.Dec.{ltb}
use borrow.Author.Tests.{ltb-false}
use Rattle.settings.specs.declared.Refusal.{Refusal}
use Rattle.settings.specs.Grounds.{refused, Ground, ground_of, Outcome, outcome, outcome_of, ◌or_else◌, given, ground, ground_at, too_short, unless_refused, Overwrites}

-- The grounds of a call that is refused.
pub refused_is : {A : Type 0} (f : Ground) (a : A) (g : Option Ground) → refused f ≡ outcome g a → g ≡ Some f
refused_is f a None e = absurd (let z : ◌≡◌ {A = ℕ} 0 1 = cc in omega arith)
refused_is f a (Some g) e = cc

-- A call refused by the grounds g is refused alike by g with more grounds after it, whatever value is at stake.
pub refused_on : {A B : Type 0} (f : Ground) (a : A) (b : B) (g later : Option Ground) → refused f ≡ outcome g a → refused f ≡ outcome (g or_else later) b
refused_on f a b g later e = rw (refused_is f a g e)

-- Where the answer is a value, no ground applies and the value is the one at stake.
pub record Passed {A : Type 0} (g : Option Ground) (x a : A) : Type 0 where
  pub none_applies_lem : g ≡ None
  pub value : x ≡ a

pub passed : {A : Type 0} {x : A} (a : A) (g : Option Ground) → given x ≡ outcome g a → Passed g x a
passed a None e = record { none_applies_lem = refl; value = cc }
passed a (Some f) e = absurd (let z : ◌≡◌ {A = ℕ} 0 1 = cc in omega arith)

-- Where neither of two grounds applies, the first does not, and the later do not.
pub first_none : (g later : Option Ground) → g or_else later ≡ None → g ≡ None
first_none None later e = refl
first_none (Some f) later e = absurd (let z : ◌≡◌ {A = ℕ} 0 1 = cc in omega arith)

pub later_none : (g later : Option Ground) → g or_else later ≡ None → later ≡ None
later_none None later e = e
later_none (Some f) later e = absurd (let z : ◌≡◌ {A = ℕ} 0 1 = cc in omega arith)

-- No ground behind another changes nothing.
pub or_none : (g : Option Ground) → g ≡ g or_else None
or_none None = refl
or_none (Some f) = refl

-- A ground that does not apply has a test that fails, and no place where it is met.
pub test_fails : (n : ℕ) (t : Bool) → ground n t ≡ None → t ≡ false
test_fails n true e = absurd (let z : ◌≡◌ {A = ℕ} 0 1 = cc in omega arith)
test_fails n false e = refl

pub nowhere_met : (n : ℕ) (o : Option ℕ) → ground_at n o ≡ None → o ≡ None
nowhere_met n None e = refl
nowhere_met n (Some p) e = absurd (let z : ◌≡◌ {A = ℕ} 0 1 = cc in omega arith)

-- Where ground 6 does not apply to a number, it is at most 16,777,216.
pub not_too_large : (n : ℕ) → ground 6 (ltb 16777216 n) ≡ None → n ≤ 16777216
not_too_large n e = ltb-false 16777216 n (test_fails 6 (ltb 16777216 n) e)

-- Where ground 7 does not apply, the buffer has the length needed.
pub room_enough : (room needed : ℕ) → too_short room needed ≡ None → needed ≤ room
room_enough room needed e = go (ltb room needed) refl e
  where
    go : (b : Bool) → ltb room needed ≡ b → cond b (Some needed) None ≡ None → needed ≤ room
    go true f g = absurd (let z : ◌≡◌ {A = ℕ} 0 1 = cc in omega arith)
    go false f g = ltb-false room needed f

-- ---- the answer at one ground, and where none applies

-- The answer where a ground applies.
pub refused_by : {A : Type 0} (f : Ground) (a : A) (g : Option Ground) → g ≡ Some f → refused f ≡ outcome g a
refused_by f a g e = rw e

-- The answer where none does.
pub given_by : {A : Type 0} (x a : A) (g : Option Ground) → g ≡ None → x ≡ a → given x ≡ outcome g a
given_by x a g e h = rw (e, h)

-- ---- what a refused call leaves

-- A call refused by its first grounds g leaves what was there, whatever grounds come after.
pub refused_leaves : {A B : Type 0} (f : Ground) (a : A) (g later : Option Ground) (new old : B) → refused f ≡ outcome g a
    → old ≡ unless_refused (g or_else later) new old
refused_leaves f a g later new old e = rw (refused_is f a g e)

-- ---- calls that overwrite a lent buffer from its start

module _ (g : Option Ground) (count : ℕ) (places old : List ℕ) where
  -- Refused at a ground, the buffer is as it was.
  pub kept_by : (f : Ground) → g ≡ Some f → Overwrites g count places old (refused f) old
  kept_by f e = record { answers = refused_by f count g e; leaves = rw e }

  -- Where no ground applies the places stand at the buffer's start, and the later ones are as they were.
  pub set_by : (new : List ℕ) → g ≡ None → new ≡ places ++ drop (length places) old → Overwrites g count places old (given count) new
  set_by new e h = record { answers = given_by count count g e refl; leaves = rw e h }

-- Refused by the first grounds g, whatever grounds come after.
pub kept_on : {A : Type 0} (f : Ground) (a : A) (g later : Option Ground) (count : ℕ) (places old : List ℕ) → refused f ≡ outcome g a
    → Overwrites (g or_else later) count places old (refused f) old
kept_on f a g later count places old e = kept_by (g or_else later) count places old f (rw (refused_is f a g e))

-- What overwrites the first n places of a buffer, with n places, overwrites the buffer.
pub prefix_overwritten : (g : Option Ground) (n : ℕ) (places t : List ℕ) {answer : Outcome ℕ} {new : List ℕ} → length places ≡ n → n ≤ length t
    → Overwrites g n places (take n t) answer new → Overwrites g n places t answer (new ++ drop n t)
prefix_overwritten None n places t {new = new} size long O =
    let all : length (take n t) ≤ length places = omega (arith, length-take-le n t long) in
    let nothing_left : drop (length places) (take n t) ≡ [] = drop_of_length-le (take n t) all in
    record {
      answers = O.answers;
      leaves = ap (λ (l : List ℕ). l ++ drop n t) (O.leaves ∙ ap (λ (l : List ℕ). places ++ l) nothing_left ∙ append-nil places) ∙ rw size;
    }
prefix_overwritten (Some f) n places t size long O =
    record { answers = O.answers; leaves = ap (λ (l : List ℕ). l ++ drop n t) O.leaves ∙ take-append-drop n t }

-- ---- the exit of a `?`

-- What a `?` returns where the call before it was refused: that refusal.
pub passed_on : {A : Type 0} (r : Result A Refusal) (f : Refusal) → IsErrAnd r (λ x. x ≡ f) → outcome_of r ≡ refused (ground_of f)
passed_on r f e = let (x, is, same) = err_from_is_err_and r e in rw (is, same)
