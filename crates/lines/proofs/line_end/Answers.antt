-- `lines::line_end` meets its contract: the first LF is the first byte that fails the search's test.
use Rattle.std.proofs.Common.{arith, length-drop, rules, tests}
use lib.Seq.{take_all}
use Rattle.lines.proofs.Searching.{lf_found, no_lf_found}
use Rattle.lines.proofs.line_end.Goals as goal

pub returns-in-Some : goal.returns-in-Some
returns-in-Some c =
    let a = c.args in
    let f = c.in-Some.ensures in
    let rest = take_all _ _ (omega (arith, length-drop a.from a.text.now)) in
    lf_found a.text.now a.from _ c.requires rest c.in-Some.p f.0 (search (rules, tests)) (λ j h. let passes = f.2 j h in search (rules, tests))

pub returns-in-None : goal.returns-in-None
returns-in-None c =
    let a = c.args in
    let f = c.in-None.ensures in
    let rest = take_all _ _ (omega (arith, length-drop a.from a.text.now)) in
    no_lf_found a.text.now a.from _ c.requires rest (λ j h. let passes = f j h in search (rules, tests))
