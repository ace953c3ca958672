-- `texts::Writer::put_decimal` calls itself on a number's tenth. The measure is the number.
use Rattle.texts.proofs.Writer.+put_decimal.Given as goal

abbrev pub decreases-put_decimal : goal.decreases-put_decimal
decreases-put_decimal l = l.n
