-- Texts and stretches at a place of an input: what they are in the words of std, whose functions the reader calls, and how far a text reaches.
use Rattle.std.proofs.Common.{◌≡◌, refl, sym, ap, ◌∙◌, Bool, cond, true, List, [], ◌∷◌, ◌++◌, ℕ, ◌+◌, ◌≤◌, arith, length, take, drop, length-append, length-drop, drop-drop, eqb, eqb-true, one-add}
use mathlib.Core.Bool.{and-eq-true_iff, false≢true}
use Rattle.std.specs.Cmp.Lexicographic.{pointwise}
use Rattle.std.specs.List.{prefix_len}
use Rattle.std.proofs.lemmas.Bool.Decides.{nat_tests}
use Rattle.survey.specs.Reading.{starts_with, stretch}

-- Whether an input starts with a text, as std's `starts_with` tells it.
pub starts_is : (text u : List ℕ) → starts_with text u ≡ pointwise eqb text (take (length text) u)
unfolding starts_with
starts_is [] u = refl
starts_is (b ∷ text) [] = refl
starts_is (b ∷ text) (x ∷ u) = let swap : eqb x b ≡ eqb b x = grind (arith, nat_tests) in rw (swap, starts_is text u)

-- A stretch is the prefix that passes the test, as std counts it.
pub stretch_is : (p : ℕ → Bool) (u : List ℕ) → stretch p u ≡ prefix_len p u
unfolding stretch
stretch_is p [] = refl
stretch_is p (b ∷ u) = rw (stretch_is p u) (ap (λ (n : ℕ). cond (p b) n 0) (sym (one-add (prefix_len p u))))

-- ---- a text as a whole

-- An input that starts with a text is that text and a rest.
starts_split : (text u : List ℕ) → starts_with text u ≡ true → u ≡ text ++ drop (length text) u
unfolding starts_with
starts_split [] u e = refl
starts_split (b ∷ text) [] e = absurd (false≢true e)
starts_split (b ∷ text) (x ∷ u) e =
    let h = (and-eq-true_iff (eqb x b) (starts_with text u)).0 e in
    rw (eqb-true x b h.0) (ap (λ (l : List ℕ). b ∷ l) (starts_split text u h.1))

pub starts_at : (text t : List ℕ) (at : ℕ) → starts_with text (drop at t) ≡ true → drop at t ≡ text ++ drop (at + length text) t
starts_at text t at e = starts_split text (drop at t) e ∙ ap (λ (l : List ℕ). text ++ l) (drop-drop (length text) at t)

pub starts_within : (b : ℕ) (text t : List ℕ) (at : ℕ) → starts_with (b ∷ text) (drop at t) ≡ true → at + length (b ∷ text) ≤ length t
starts_within b text t at e = omega (arith, simp length-append at (ap length (starts_split (b ∷ text) (drop at t) e)), length-drop at t)
