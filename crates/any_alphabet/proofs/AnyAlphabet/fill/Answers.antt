-- `AnyAlphabet::fill` meets its contract: each turn goes on to the next window and writes its code (windows' Filling).
use Rattle.std.proofs.Common.{◌≡◌, ◌∙◌, ◌+◌, arith}
use Rattle.windows.proofs.Filling.{fills_none, filling_first, filling_done, filling_next}
use Rattle.any_alphabet.proofs.AnyAlphabet.fill.Goals as goal

pub returns-then-self : goal.returns-then-self
returns-then-self c = fills_none _ _ _ _ _ c.if-self.true

pub loop-i-init : goal.loop-i-init
loop-i-init c =
    let first = c.first_window-window.ensures in
    let code = rw (first.place, first.length) at c.window_code.ensures in
    (first.window, (first.place, (first.length, filling_first {d = c.args.self.now.ranks.now} _ _ c.args.self.now.some c.if-self.false c.requires code)))

pub loop-i-preserved : goal.loop-i-preserved
loop-i-preserved c =
    let (known, (at, (length, filling))) = c.loop-i.invariant in
    let next = c.next_window-window.ensures in
    let place : c.next_window-window.result.at ≡ c.loop-i.i + 1 = omega (arith, next.place, at) in
    let same : c.next_window-window.result.length ≡ c.args.self.now.k = next.length ∙ length in
    let code = rw (place, same) at c.window_code-in-loop-i.ensures in
    (next.next, (place, (same, filling_next filling _ (omega arith) code)))

pub returns : goal.returns
returns c = filling_done _ _ c.loop-i.invariant.1.1.1 (omega arith)
