-- The bytes of a form's value: those that the reader's test passes are the grammar's, and a stretch of them ends where the value does.
use Rattle.std.proofs.Common.{◌≡◌, refl, sym, ap, Bool, true, false, not, ◌||◌, List, [], ◌∷◌, ◌++◌, ◌≢◌, ℕ, suc, ◌≤◌, ◌<◌, arith, length, take, leb, eqb, leb-true, le-leb, ne_eqb}
use mathlib.Core.Bool.{and-eq-true_iff, false≢true}
use mathlib.Mathlib.Data.Bool.Basic.{eq-false_of_not-eq-true}
use lib.Seq.{take-length}
use borrow.Author.Tests.{eqb-false}
use Rattle.laws.specs.Text.{bytes}
use Rattle.laws.proofs.Tests.{by_test}
use Rattle.survey.specs.declared.Name.{Name}
use Rattle.survey.specs.declared.Name.TheVariants.{Letters, K, Mirror}
use Rattle.settings.specs.Settings.{is_in}
use Rattle.laws.specs.Each.{Each}
use Rattle.survey.specs.Grammar.{LetterByte, Digit, SmallLetter}
use Rattle.survey.specs.Reading.{stretch, value_byte}

-- The bytes of a form's value, as the grammar has them.
abbrev pub ByteOf : Name → ℕ → Type 0
ByteOf Letters = LetterByte
ByteOf K = Digit
ByteOf Mirror = SmallLetter

-- The bytes above the brackets are letters.
pub letter_above : (b : ℕ) → 41 < b → LetterByte b
letter_above b h = (λ e. omega arith, (λ e. omega arith, (λ e. omega arith, (λ e. omega arith, (λ e. omega arith, tt)))))

-- The list of other bytes, test by test.
not_in : (b : ℕ) (xs : List ℕ) → not (is_in b xs) ≡ true → Each (λ (x : ℕ). b ≢ x) xs
unfolding is_in
not_in b [] e = tt
not_in b (x ∷ xs) e = go (eqb x b) refl e (not_in b xs)
  where
    go : (c : Bool) → eqb x b ≡ c → not (c || is_in b xs) ≡ true → (not (is_in b xs) ≡ true → Each (λ (y : ℕ). b ≢ y) xs)
        → (b ≢ x) × Each (λ (y : ℕ). b ≢ y) xs
    go true f g rest = absurd (false≢true g)
    go false f g rest = (λ h. eqb-false x b f (sym h), rest g)

is_out_lem : (b : ℕ) (xs : List ℕ) → Each (λ (x : ℕ). b ≢ x) xs → not (is_in b xs) ≡ true
unfolding is_in
is_out_lem b [] e = refl
is_out_lem b (x ∷ xs) e = rw (ne_eqb x b (λ h. e.0 (sym h))) (is_out_lem b xs e.1)

-- The reader's test and the grammar's bytes are the same.
byte_is : (name : Name) (b : ℕ) → value_byte name b ≡ true → ByteOf name b
unfolding value_byte
byte_is Letters b e = not_in b (bytes "() \r\n") e
byte_is K b e = let h = (and-eq-true_iff (leb 48 b) (leb b 57)).0 e in (leb-true 48 b h.0, leb-true b 57 h.1)
byte_is Mirror b e = let h = (and-eq-true_iff (leb 97 b) (leb b 122)).0 e in (leb-true 97 b h.0, leb-true b 122 h.1)

pub byte_passes : (name : Name) (b : ℕ) → ByteOf name b → value_byte name b ≡ true
unfolding value_byte
byte_passes Letters b h = is_out_lem b (bytes "() \r\n") h
byte_passes K b h = rw (le-leb 48 b h.0, le-leb b 57 h.1)
byte_passes Mirror b h = rw (le-leb 97 b h.0, le-leb b 122 h.1)

pub byte_fails : (name : Name) (b : ℕ) → (ByteOf name b → ⊥) → value_byte name b ≡ false
byte_fails name b h = eq-false_of_not-eq-true (λ e. h (byte_is name b e))

-- The bracket that closes a form is in no value.
bracket_ends : (name : Name) → ByteOf name 41 → ⊥
bracket_ends Letters h = h.1.0 refl
bracket_ends K h = omega arith
bracket_ends Mirror h = omega arith

-- ---- stretches

pub stretch-le : (p : ℕ → Bool) (u : List ℕ) → stretch p u ≤ length u
unfolding stretch
stretch-le p [] = omega arith
stretch-le p (b ∷ u) = by_test (λ (n : ℕ). n ≤ suc (length u)) (p b) (λ e. omega (arith, stretch-le p u)) (λ e. omega arith)

-- A stretch is made of such bytes; and such bytes with a bracket after them are one stretch.
pub stretch-each : (name : Name) (u : List ℕ) → Each (ByteOf name) (take (stretch (value_byte name) u) u)
unfolding stretch
stretch-each name [] = tt
stretch-each name (b ∷ u) =
    by_test (λ (n : ℕ). Each (ByteOf name) (take n (b ∷ u))) (value_byte name b) (λ e. (byte_is name b e, stretch-each name u)) (λ e. tt)

pub stretch-all : (name : Name) (v w : List ℕ) → Each (ByteOf name) v → stretch (value_byte name) (v ++ (41 ∷ w)) ≡ length v
unfolding stretch
stretch-all name [] w h = rw (byte_fails name 41 (bracket_ends name))
stretch-all name (b ∷ v) w h = rw (byte_passes name b h.0) (ap suc (stretch-all name v w h.1))

-- A text that is one stretch is made of such bytes: a computed test.
pub each_of : (name : Name) (v : List ℕ) → stretch (value_byte name) v ≡ length v → Each (ByteOf name) v
each_of name v e = rw (e, take-length v) at (stretch-each name v)
