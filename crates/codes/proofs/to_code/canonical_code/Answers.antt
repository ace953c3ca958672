-- `codes::to_code::canonical_code` meets its contract. The value of the digits is at least what is subtracted, and what is left is the code (Shifts).
use Rattle.std.proofs.Common.{arith}
use Rattle.codes.proofs.Shifts.{at_le, enough, code_is_this}
use Rattle.codes.proofs.to_code.canonical_code.Goals as goal

pub shift_of-shift-requires : goal.shift_of-shift-requires
shift_of-shift-requires c =
    (c.requires.word.two, c.requires.word.small, at_le c.args.s c.args.m c.args.w.now c.differing_at-at.ensures)

pub overflow_sub-result : goal.overflow_sub-result
overflow_sub-result c =
    omega (arith, enough c.requires c.differing_at-at.ensures c.shift_of-shift.ensures c.odd_shift-odd.ensures c.digits_value-value.ensures)

pub overflow_sub-result-2 : goal.overflow_sub-result-2
overflow_sub-result-2 c =
    omega (arith, enough c.requires c.differing_at-at.ensures c.shift_of-shift.ensures c.odd_shift-odd.ensures c.digits_value-value.ensures)

pub returns : goal.returns
returns c =
    code_is_this c.requires c.differing_at-at.ensures c.shift_of-shift.ensures c.odd_shift-odd.ensures
    c.digits_value-value.ensures
