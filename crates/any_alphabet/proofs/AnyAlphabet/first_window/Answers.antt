-- `AnyAlphabet::first_window` meets its contract: each letter enters both plain ranks (FirstWindows).
use Rattle.std.proofs.Common.{arith}
use Rattle.any_alphabet.proofs.FirstWindows.{open_none, open_ahead, open_behind, open_more}
use Rattle.any_alphabet.proofs.WindowLaws.{k_lt, input_of, first_letter}
use Rattle.any_alphabet.proofs.AnyAlphabet.first_window.Goals as goal

pub loop-i-init : goal.loop-i-init
loop-i-init c = open_none _ _ _ _ _

pub overflow_add-forward : goal.overflow_add-forward
overflow_add-forward c = omega (arith, open_ahead (first_letter (input_of c.args.self.now) c.inner_length-i-end.ensures c.loop-i.invariant c.requires c.loop-i-test.true c.rank_at-x.ensures))

pub overflow_mul-forward : goal.overflow_mul-forward
overflow_mul-forward c = omega (arith, open_ahead (first_letter (input_of c.args.self.now) c.inner_length-i-end.ensures c.loop-i.invariant c.requires c.loop-i-test.true c.rank_at-x.ensures))

pub bounds-self-i : goal.bounds-self-i
bounds-self-i c = omega (arith, k_lt (input_of c.args.self.now), c.inner_length-i-end.ensures)

pub offset_bounds-self-i : goal.offset_bounds-self-i
offset_bounds-self-i c = omega (arith, k_lt (input_of c.args.self.now), c.inner_length-i-end.ensures)

pub overflow_add-back : goal.overflow_add-back
overflow_add-back c = omega (arith, open_behind (first_letter (input_of c.args.self.now) c.inner_length-i-end.ensures c.loop-i.invariant c.requires c.loop-i-test.true c.rank_at-x.ensures) c.mirror_rank.ensures (c.args.self.now.powers_are.at c.loop-i.i (omega (arith, c.inner_length-i-end.ensures))))

pub overflow_mul-back : goal.overflow_mul-back
overflow_mul-back c = omega (arith, open_behind (first_letter (input_of c.args.self.now) c.inner_length-i-end.ensures c.loop-i.invariant c.requires c.loop-i-test.true c.rank_at-x.ensures) c.mirror_rank.ensures (c.args.self.now.powers_are.at c.loop-i.i (omega (arith, c.inner_length-i-end.ensures))))

pub loop-i-preserved : goal.loop-i-preserved
loop-i-preserved c = open_more (first_letter (input_of c.args.self.now) c.inner_length-i-end.ensures c.loop-i.invariant c.requires c.loop-i-test.true c.rank_at-x.ensures) c.mirror_rank.ensures (c.args.self.now.powers_are.at c.loop-i.i (omega (arith, c.inner_length-i-end.ensures)))
