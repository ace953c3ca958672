-- `settings::sized` meets its contract: ground 4 from the power that stops above 2^62, and else the settings with their number of classes.
use Rattle.settings.proofs.ClassCount.{no_k, large_k, good_k}
use Rattle.settings.proofs.Powers.{capped}
use native.Mathlib.Omega.{arith}
use Prim.Native.Nat.{◌^◌, ◌≤◌}
use Rattle.settings.proofs.sized.Goals as goal

pub returns-then-k-eq0 : goal.returns-then-k-eq0
returns-then-k-eq0 c = rw (no_k c.args.n c.args.k c.if-k-eq0.true)

pub returns-then-words-gt-MOST_WORDS : goal.returns-then-words-gt-MOST_WORDS
returns-then-words-gt-MOST_WORDS c =
    rw (large_k c.args.n c.args.k c.if-k-eq0.false _ c.power-words.ensures c.if-words-gt-MOST_WORDS.true)

pub returns : goal.returns
returns c =
    let n = c.args.n in
    let k = c.args.k in
    let small : n ^ k ≤ 2 ^ 62 = omega (arith, c.power-words.ensures) in
    let words_are = capped n k k _ c.requires.0 (omega arith) small c.power-words.ensures in
    rw (good_k n k c.if-k-eq0.false small, words_are, c.class_count-classes.ensures)
