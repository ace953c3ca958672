-- `generator::put_record` meets its contract: the header, and right behind it the letters.
use Rattle.generator.proofs.Drawing.{record_drawn}
use Rattle.generator.proofs.put_record.Goals as goal

pub returns-clause-text : goal.returns-clause-text
returns-clause-text c = let a = c.args in record_drawn a.letters.now a.each a.number a.start c.put_field.ensures c.put_text.ensures c.put_letters.ensures.lines
