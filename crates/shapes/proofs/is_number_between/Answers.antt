-- `shapes::is_number_between` meets its contract: what stands between the front and the back decides.
use Rattle.shapes.proofs.Framed.{number_by}
use Rattle.shapes.proofs.is_number_between.Goals as goal

pub returns : goal.returns
returns c = number_by c.args.front.now c.args.back.now c.args.line.now c.between.result c.is_some_and.result c.between.ensures c.is_some_and.ensures
