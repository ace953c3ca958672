-- `AnyAlphabet::next_window` meets its contract. A letter enters both plain ranks and one leaves; neither sum wraps (WindowLaws).
use Rattle.std.proofs.Common.{refl, arith}
use Rattle.any_alphabet.proofs.WindowLaws.{k_lt, next_from, ahead_fits, behind_fits, next_window_is}
use Rattle.any_alphabet.proofs.AnyAlphabet.next_window.Goals as goal

pub bounds-self-n : goal.bounds-self-n
bounds-self-n c = omega (arith, k_lt c.requires.window.input)

pub offset_bounds-self-n : goal.offset_bounds-self-n
offset_bounds-self-n c = omega (arith, k_lt c.requires.window.input)

pub overflow_add-result-2 : goal.overflow_add-result-2
overflow_add-result-2 c = omega (arith, (ahead_fits (next_from c.requires.window c.requires.some c.requires.inside c.inner_length-n.ensures c.rank_at-leaving.ensures c.rank_at-entering.ensures c.mirror_rank-shown.ensures)).0)

pub overflow_mul-result : goal.overflow_mul-result
overflow_mul-result c = omega (arith, (ahead_fits (next_from c.requires.window c.requires.some c.requires.inside c.inner_length-n.ensures c.rank_at-leaving.ensures c.rank_at-entering.ensures c.mirror_rank-shown.ensures)).0)

pub overflow_sub-result : goal.overflow_sub-result
overflow_sub-result c = (ahead_fits (next_from c.requires.window c.requires.some c.requires.inside c.inner_length-n.ensures c.rank_at-leaving.ensures c.rank_at-entering.ensures c.mirror_rank-shown.ensures)).1

pub overflow_mul-result-2 : goal.overflow_mul-result-2
overflow_mul-result-2 c = omega (arith, ahead_fits (next_from c.requires.window c.requires.some c.requires.inside c.inner_length-n.ensures c.rank_at-leaving.ensures c.rank_at-entering.ensures c.mirror_rank-shown.ensures))

pub overflow_add-w-4 : goal.overflow_add-w-4
overflow_add-w-4 c = omega (arith, behind_fits (next_from c.requires.window c.requires.some c.requires.inside c.inner_length-n.ensures c.rank_at-leaving.ensures c.rank_at-entering.ensures c.mirror_rank-shown.ensures))

pub overflow_mul-shown : goal.overflow_mul-shown
overflow_mul-shown c = omega (arith, behind_fits (next_from c.requires.window c.requires.some c.requires.inside c.inner_length-n.ensures c.rank_at-leaving.ensures c.rank_at-entering.ensures c.mirror_rank-shown.ensures))

pub returns-clause-next : goal.returns-clause-next
returns-clause-next c = next_window_is (next_from c.requires.window c.requires.some c.requires.inside c.inner_length-n.ensures c.rank_at-leaving.ensures c.rank_at-entering.ensures c.mirror_rank-shown.ensures) _ _ refl c.divided.ensures
