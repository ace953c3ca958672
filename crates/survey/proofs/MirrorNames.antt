-- The mirror's name: the reader compares it with its closing bracket and finds the grammar's number (`mirror-read`, `mirror-there`).
use Rattle.std.proofs.Common.{◌≡◌, refl, true, false, true≢false, List, [], ◌∷◌, ◌++◌, ◌≢◌, ℕ, arith, eqb, eqb-true}
use mathlib.Core.Bool.{and-eq-true_iff}
use mathlib.Mathlib.Data.Bool.Basic.{eq-false_of_not-eq-true}
use Rattle.laws.specs.Text.{bytes}
use Rattle.laws.proofs.Tests.{by_test}
use Rattle.survey.specs.declared.Name.TheVariants.{Mirror}
use Rattle.laws.specs.Each.{Each}
use Rattle.survey.specs.Grammar.{SmallLetter, MirrorNumber, reversal, complement, another}
use Rattle.survey.specs.Reading.{starts_with, stretch, value_byte, mirror_number}
use Rattle.survey.proofs.ByteLaws.{each_of}

-- Two names of small letters with a bracket after each are equal where the one starts with the other.
same_name : (name v w : List ℕ) → Each SmallLetter name → Each SmallLetter v → starts_with (name ++ (41 ∷ [])) (v ++ (41 ∷ w)) ≡ true
    → v ≡ name
unfolding starts_with
same_name [] [] w n h e = refl
same_name [] (x ∷ v) w n h e = absurd (omega (arith, eqb-true x 41 ((and-eq-true_iff (eqb x 41) true).0 e).0, h.0))
same_name (a ∷ name) [] w n h e = absurd (omega (arith, eqb-true 41 a ((and-eq-true_iff (eqb 41 a) (starts_with (name ++ (41 ∷ [])) w)).0 e).0, n.0))
same_name (a ∷ name) (x ∷ v) w n h e =
    let q = (and-eq-true_iff (eqb x a) (starts_with (name ++ (41 ∷ [])) (v ++ (41 ∷ w)))).0 e in
    rw (eqb-true x a q.0, same_name name v w n.1 h.1 q.1)

other_name : (name v w : List ℕ) → Each SmallLetter name → Each SmallLetter v → v ≢ name
    → starts_with (name ++ (41 ∷ [])) (v ++ (41 ∷ w)) ≡ false
other_name name v w n h d = eq-false_of_not-eq-true (λ e. d (same_name name v w n h e))

pub reversal_small : Each SmallLetter (bytes "reversal")
unfolding stretch value_byte
reversal_small = each_of Mirror (bytes "reversal") refl

pub complement_small : Each SmallLetter (bytes "complement")
unfolding stretch value_byte
complement_small = each_of Mirror (bytes "complement") refl

-- The number of a name with a bracket after it.
pub mirror-read : (v w : List ℕ) → Each SmallLetter v → MirrorNumber v (mirror_number (v ++ (41 ∷ w)))
unfolding mirror_number starts_with
mirror-read v w h =
    by_test (MirrorNumber v) (starts_with (bytes "reversal)") (v ++ (41 ∷ w)))
    (λ e. rw (same_name (bytes "reversal") v w reversal_small h e) reversal)
    (λ e. by_test (MirrorNumber v) (starts_with (bytes "complement)") (v ++ (41 ∷ w)))
    (λ f. rw (same_name (bytes "complement") v w complement_small h f) complement)
    (λ f. another (λ z. true≢false (rw z at e)) (λ z. true≢false (rw z at f))))

pub mirror-there : (v w : List ℕ) (mirror : ℕ) → Each SmallLetter v → MirrorNumber v mirror → mirror_number (v ++ (41 ∷ w)) ≡ mirror
unfolding mirror_number starts_with
mirror-there v w mirror h reversal = refl
mirror-there v w mirror h complement = refl
mirror-there v w mirror h (another p q) =
    rw (other_name (bytes "reversal") v w reversal_small h p, other_name (bytes "complement") v w complement_small h q)
