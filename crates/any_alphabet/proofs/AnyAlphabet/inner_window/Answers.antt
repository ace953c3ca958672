-- `AnyAlphabet::inner_window` meets its contract. The outer letters are taken off both plain ranks (WindowLaws).
use Rattle.std.proofs.Common.{arith}
use Rattle.any_alphabet.proofs.WindowLaws.{k_lt, within_short, first_fits, last_fits, first_le, last_le, within_long}
use Rattle.any_alphabet.proofs.AnyAlphabet.inner_window.Goals as goal

pub returns-then-w-lt4-clause-inner : goal.returns-then-w-lt4-clause-inner
returns-then-w-lt4-clause-inner c = within_short c.requires.window _ c.requires.two c.if-w-lt4.true c.divided-palindromes.ensures

pub bounds-self-w : goal.bounds-self-w
bounds-self-w c = omega (arith, k_lt c.requires.window.input)

pub offset_bounds-self-w : goal.offset_bounds-self-w
offset_bounds-self-w c = omega (arith, k_lt c.requires.window.input)

pub overflow_sub-w-2 : goal.overflow_sub-w-2
overflow_sub-w-2 c = (first_le c.requires.window _ _ c.if-w-lt4.false (c.requires.window.input.table.at _ (omega arith)) c.rank_at.ensures).1

pub overflow_sub-w-3 : goal.overflow_sub-w-3
overflow_sub-w-3 c = (last_le c.requires.window _ _ c.if-w-lt4.false (c.requires.window.input.table.at _ (omega arith)) c.mirror_rank_at.ensures).1

pub overflow_mul-first : goal.overflow_mul-first
overflow_mul-first c = record { fits = first_fits c.requires.window c.if-w-lt4.false c.rank_at.ensures }

pub overflow_mul-last : goal.overflow_mul-last
overflow_mul-last c = record { fits = last_fits c.requires.window c.if-w-lt4.false c.mirror_rank_at.ensures }

pub returns-clause-inner : goal.returns-clause-inner
returns-clause-inner c =
    within_long c.requires.window _ _ _ _ _ _ c.if-w-lt4.false c.divided-palindromes.ensures (c.requires.window.input.table.at _ (omega arith))
    c.rank_at.ensures c.mirror_rank_at.ensures c.divided.ensures c.divided-2.ensures
