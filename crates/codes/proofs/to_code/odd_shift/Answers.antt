-- `codes::to_code::odd_shift` meets its contract. A case for each mirror and, under complement, for odd and even k (Shifts).
use Rattle.std.proofs.Common.{arith}
use Rattle.codes.proofs.Shifts.{odd_reversal, odd_complement, odd_fits, even_complement}
use Rattle.codes.proofs.to_code.odd_shift.Goals as goal

pub overflow_mul-result : goal.overflow_mul-result
overflow_mul-result c =
    omega (arith, odd_fits c.args.s c.args.k c.requires.0 c.requires.1 c.if-k-eq1.true _ c.power.ensures)

pub returns-in-Reversal : goal.returns-in-Reversal
returns-in-Reversal c = rw c.in-Reversal.is (odd_reversal c.args.s c.args.k)

pub returns-then-k-eq1 : goal.returns-then-k-eq1
returns-then-k-eq1 c =
    rw c.in-Complement.is
    (odd_complement c.args.s c.args.k c.requires.0 c.requires.1 c.if-k-eq1.true _ c.power.ensures)

pub returns-else-k-eq1 : goal.returns-else-k-eq1
returns-else-k-eq1 c =
    rw c.in-Complement.is (even_complement c.args.s c.args.k c.if-k-eq1.false)
