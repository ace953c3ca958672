use Rattle.texts.proofs.Writer.+put_decimal.Goals as goal
use Rattle.texts.proofs.Writer.+put_decimal.Goals.{then-n-ge10, else-n-ge10}
use Rattle.texts.proofs.Decimals.{one_digit, more_digits}
use Rattle.texts.proofs.Writing.{then}

pub returns : goal.returns
returns t c =
    elim c.if-n-ge10.branch [
      | then-n-ge10 w ↦ rw (more_digits c.args.n w.if-n-ge10.true, ← c.last_digit.ensures) (then w.put_decimal.ensures (rw w.self-is at c.put_byte.ensures))
      | else-n-ge10 w ↦ rw (one_digit c.args.n w.if-n-ge10.false, ← c.last_digit.ensures) (rw w.self-is at c.put_byte.ensures)
    ]
