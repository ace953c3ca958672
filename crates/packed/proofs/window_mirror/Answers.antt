-- `packed::window_mirror` meets its contract: the letters of rank 0 before the word are dropped (LowLetters).
use Rattle.std.proofs.Common.{◌∙◌, arith}
use Rattle.packed.proofs.LowLetters.{by_lookup, padded}
use Rattle.packed.proofs.window_mirror.Goals as goal

pub returns-then-k-gt16 : goal.returns-then-k-gt16
returns-then-k-gt16 c =
    padded 32 c.args.k c.args.x _ (omega arith) (omega (arith, c.requires.k_bound)) c.requires.x_bound (omega arith)

pub returns-then-k-gt12 : goal.returns-then-k-gt12
returns-then-k-gt12 c =
    padded 16 c.args.k c.args.x _ (omega arith) c.if-k-gt16.false c.requires.x_bound (omega arith)

pub returns-then-k-gt8 : goal.returns-then-k-gt8
returns-then-k-gt8 c =
    padded 12 c.args.k c.args.x _ (omega arith) c.if-k-gt12.false c.requires.x_bound (omega arith)

pub returns-then-k-gt4 : goal.returns-then-k-gt4
returns-then-k-gt4 c =
    padded 8 c.args.k c.args.x _ (omega arith) c.if-k-gt8.false c.requires.x_bound (omega arith)

pub returns : goal.returns
returns c =
    padded 4 c.args.k c.args.x _ (c.mirror_of_four.ensures ∙ by_lookup c.requires.mirror_table c.args.x) c.if-k-gt4.false c.requires.x_bound (omega arith)
