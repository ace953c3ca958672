-- `codes::to_code::shift_of` meets its contract. Both powers are within 2^62, and the first is not below the second (Shifts).
use Rattle.codes.proofs.Shifts.{no_shift, shift_pow, some_shift}
use Rattle.codes.proofs.to_code.shift_of.Goals as goal

pub returns-then-k-p : goal.returns-then-k-p
returns-then-k-p c = no_shift _ _ _ c.requires.2 c.if-k-p.true

pub overflow_sub-result : goal.overflow_sub-result
overflow_sub-result c = shift_pow _ _ _ c.requires.2 c.requires.0 c.requires.1 c.if-k-p.false _ _ c.power.ensures c.power-2.ensures

pub returns : goal.returns
returns c = some_shift _ _ _ c.requires.2 c.requires.0 c.requires.1 c.if-k-p.false _ _ c.power.ensures c.power-2.ensures
