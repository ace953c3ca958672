use Rattle.texts.proofs.Writing.{then}
use Rattle.texts.proofs.Writer.put_field.Goals as goal

pub returns : goal.returns
returns c = then c.put_text.ensures c.put_decimal.ensures
