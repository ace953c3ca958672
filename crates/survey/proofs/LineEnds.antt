-- The end of a survey line. `end_good`: an end that the reader finds is one of the grammar's; `end_there`: an end of the grammar is found; `end_open`: where
-- a further form follows, there is none.
use Rattle.std.proofs.Common.{◌≡◌, ap, true, ◌&&◌, List, [], ◌++◌, ℕ, ◌+◌, ◌≤◌, arith, length, drop, length-drop, drop_of_length-le, eqb, eqb-true, eq-eqb, Option, None, Some}
use mathlib.Core.Bool.{and-eq-true_iff}
use Rattle.laws.specs.Text.{bytes}
use Rattle.laws.proofs.Tests.{by_test}
use Rattle.survey.specs.Grammar.{LineEnd, lf, crlf, with_the_input}
use Rattle.survey.specs.Reading.{starts_with, end_after}
use Rattle.survey.proofs.TextLaws.{starts_at, starts_within}
use Rattle.survey.proofs.FormLaws.{drop_more}

-- ---- from the reader to the grammar

-- The line's end that was read.
pub record EndRead (t : List ℕ) (at next : ℕ) : Type 0 where
  pub end : List ℕ
  pub text : drop at t ≡ bytes "))" ++ (end ++ drop next t)
  pub ends : LineEnd end (drop next t)
  pub inside : next ≤ length t

abbrev pub EndGood : List ℕ → ℕ → Option ℕ → Type 0
EndGood t at None = Unit
EndGood t at (Some next) = EndRead t at next

pub end_good : (t : List ℕ) (at : ℕ) → EndGood t at (end_after t at)
unfolding end_after
end_good t at =
    by_test (EndGood t at) (starts_with (bytes "))\n") (drop at t))
    (λ e. record { end = bytes "\n"; text = starts_at _ t at e; ends = lf; inside = starts_within _ _ t at e })
    (λ e. by_test (EndGood t at) (starts_with (bytes "))\r\n") (drop at t))
    (λ f. record { end = bytes "\r\n"; text = starts_at _ t at f; ends = crlf; inside = starts_within _ _ t at f })
    (λ f. by_test (EndGood t at) (starts_with (bytes "))") (drop at t) && eqb (at + 2) (length t)) last (λ g. tt)))
  where
    last : starts_with (bytes "))") (drop at t) && eqb (at + 2) (length t) ≡ true → EndRead t at (at + 2)
    last g =
        let h = (and-eq-true_iff (starts_with (bytes "))") (drop at t)) (eqb (at + 2) (length t))).0 g in
        let all : at + 2 ≡ length t = eqb-true (at + 2) (length t) h.1 in
        let none : drop (at + 2) t ≡ [] = drop_of_length-le t {i = at + 2} (omega arith) in
        record { end = []; text = starts_at _ t at h.0; ends = rw none with_the_input; inside = omega arith }

-- ---- from the grammar to the reader

-- The line's end that stands at a place is found.
pub record EndThere (t : List ℕ) (at : ℕ) (file : List ℕ) : Type 0 where
  pub next : ℕ
  pub is : end_after t at ≡ Some next
  pub rest : drop next t ≡ file

pub end_there : (t : List ℕ) (at : ℕ) {end file : List ℕ} → LineEnd end file → drop at t ≡ bytes "))" ++ (end ++ file) → EndThere t at file
unfolding end_after starts_with
end_there t at {file = file} lf e = record { next = at + 3; is = rw e; rest = drop_more t at (bytes "))\n") file e }
end_there t at {file = file} crlf e = record { next = at + 4; is = rw e; rest = drop_more t at (bytes "))\r\n") file e }
end_there t at with_the_input e =
    let all : at + 2 ≡ length t = omega (arith, ap length e, length-drop at t) in
    record { next = at + 2; is = rw (e, eq-eqb (at + 2) (length t) all); rest = drop_more t at (bytes "))") [] e }

-- No line ends where a space follows a form's bracket.
pub end_open : (t : List ℕ) (at : ℕ) {rest : List ℕ} → drop at t ≡ bytes ") " ++ rest → end_after t at ≡ None
unfolding end_after starts_with
end_open t at e = rw e
