-- `AnyAlphabet::differing_code` meets its contract. What is added up is the code, which is below 2^62 (WindowLaws).
use Rattle.std.proofs.Common.{◌∙◌, arith}
use Rattle.any_alphabet.proofs.WindowLaws.{k_lt, code_fits, outer_lt, differing_is}
use Rattle.any_alphabet.proofs.AnyAlphabet.differing_code.Goals as goal

pub bounds-self-w : goal.bounds-self-w
bounds-self-w c = omega (arith, k_lt c.requires.window.input)

pub bounds-self-w-2 : goal.bounds-self-w-2
bounds-self-w-2 c = omega (arith, k_lt c.requires.window.input)

pub offset_bounds-self-w : goal.offset_bounds-self-w
offset_bounds-self-w c = omega (arith, k_lt c.requires.window.input)

pub offset_bounds-self-w-2 : goal.offset_bounds-self-w-2
offset_bounds-self-w-2 c = omega (arith, k_lt c.requires.window.input)

pub pair_rank-pair-requires : goal.pair_rank-pair-requires
pair_rank-pair-requires c =
    let lt = outer_lt c.requires.window c.requires.outer_pair in
    (omega (arith, c.requires.letters_differ), omega (arith, lt.0, lt.1), c.requires.window.input.limits.few)

pub returns : goal.returns
returns c =
    let table = c.requires.window.input.table in
    differing_is c.requires.window _ _ _ _ c.requires.outer_pair c.requires.letters_differ c.by_order-between.ensures (c.pair_rank-pair.ensures ∙ cc)
    (table.at _ (omega arith)) (table.at _ (omega arith))

-- The sum, of which each of these is a part.
pub overflow_add-result-3 : goal.overflow_add-result-3
overflow_add-result-3 c = omega (arith, returns c, code_fits c.requires.window)

pub overflow_add-result-2 : goal.overflow_add-result-2
overflow_add-result-2 c = omega (arith, overflow_add-result-3 c)

pub overflow_mul-result : goal.overflow_mul-result
overflow_mul-result c = omega (arith, overflow_add-result-3 c)

pub overflow_add-result : goal.overflow_add-result
overflow_add-result c = omega (arith, returns c, code_fits c.requires.window)
