-- `generator::step` meets its contract.
use Rattle.std.proofs.Common.{◌^◌}
use native.Mathlib.Nat.{mod-add-mod}
use Rattle.testload.specs.TestLoad.{stepped}
use Rattle.generator.proofs.step.Goals as goal

pub returns : goal.returns
unfolding stepped
returns c = rw c.wrapping_mul-product.ensures (mod-add-mod _ (2 ^ 64) 1442695040888963407)
