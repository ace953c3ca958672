-- The first fault of some items: a property of the grounds 10 and 11 at the places of the items is one of that fault. By induction over the items.
use Rattle.std.proofs.Common.{Bool, true, false, List, [], ◌∷◌, ℕ, suc, ◌+◌, ◌<◌, ◌≤◌, arith, length}
use Rattle.settings.specs.Grounds.{Ground}
use Rattle.settings.proofs.FirstGround.{Has, none_has, some_has}
use Rattle.fasta.specs.declared.Item.{Item}
use Rattle.fasta.specs.declared.Item.TheVariants.{Opens, Skip, Stray, Letter}
use Rattle.fasta.specs.File.{fault_from}

module _ (Q : Ground → Type 0) (n : ℕ) (stray : (p : ℕ) → p < n → Q (10, p)) (early : (p : ℕ) → p < n → Q (11, p)) where
  pub fault_has : (opened : Bool) (at : ℕ) (is : List Item) → at + length is ≤ n → Has Q (fault_from opened at is)
  unfolding fault_from
  fault_has opened at [] h = none_has Q
  fault_has opened at (Opens ∷ is) h = fault_has true (suc at) is (omega arith)
  fault_has opened at (Skip ∷ is) h = fault_has opened (suc at) is (omega arith)
  fault_has opened at (Stray ∷ is) h = some_has Q (10, at) (stray at (omega arith))
  fault_has true at (Letter b ∷ is) h = fault_has true (suc at) is (omega arith)
  fault_has false at (Letter b ∷ is) h = some_has Q (11, at) (early at (omega arith))
