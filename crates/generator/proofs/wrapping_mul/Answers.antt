-- `generator::wrapping_mul` meets its contract.
use Rattle.std.proofs.Common.{refl}
use Rattle.generator.proofs.Products.{by_halves}
use Rattle.generator.proofs.wrapping_mul.Goals as goal

pub returns : goal.returns
returns c = by_halves c.args.a c.args.b _ refl
