-- What a clearing with two adds after it promises.
use Rattle.std.specs.Prelude.{◌≡◌, List, [], ◌∷◌, ℕ, length, None}
use Rattle.settings.specs.Grounds.{Outcome, outcome_of}
use Rattle.fasta.specs.declared.Numbers.{Numbers}
use Rattle.files.specs.File.{File}
use Rattle.tally_book.specs.Table.{clear_ground, Clears, add}
use Rattle.tally_book.specs.Demand.{TableCalls, DemandThree}
use Rattle.two_adds.specs.declared.Answers.{Answers}
use Rattle.settings.specs.Given.{Given}

-- The answers of two adds.
abbrev pub two_answers : Answers → List (Outcome Numbers)
two_answers r = outcome_of r.first ∷ outcome_of r.second ∷ []

-- A clearing of t₀ and two adds after it, each on the table that the call before left; demand 3 holds of them.
pub record AddsTwo (settings : Given) (t₀ : List ℕ) (one other : File) (r : Answers) (t : List ℕ) : Type 0 where
  pub table_cleared : List ℕ
  pub clearing : Clears settings t₀ (outcome_of r.cleared) table_cleared
  pub adds : TableCalls settings table_cleared (add one ∷ add other ∷ []) (two_answers r) t
  pub demand_three : clear_ground settings (length t₀) ≡ None → DemandThree settings t₀ table_cleared (add one ∷ add other ∷ []) (two_answers r) t
