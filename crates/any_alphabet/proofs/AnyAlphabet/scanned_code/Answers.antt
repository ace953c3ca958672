-- `AnyAlphabet::scanned_code` meets its contract (WindowLaws, `Scan`).
use Rattle.std.proofs.Common.{arith}
use Rattle.any_alphabet.proofs.WindowLaws.{outer_pair, scan_start, scale_fits, scan_rest, scan_within, scan_done, scan_one, scan_none}
use Rattle.any_alphabet.proofs.AnyAlphabet.scanned_code.Goals as goal

pub loop-w-init : goal.loop-w-init
loop-w-init c = scan_start c.requires

pub rank_at-l-requires : goal.rank_at-l-requires
rank_at-l-requires c = omega (arith, c.loop-w.invariant.window.inside)

pub overflow_add-w : goal.overflow_add-w
overflow_add-w c = omega (arith, c.loop-w.invariant.window.inside)

pub mirror_rank_at-r-requires : goal.mirror_rank_at-r-requires
mirror_rank_at-r-requires c = omega (arith, c.loop-w.invariant.window.inside)

pub differing_code-requires-clause-window : goal.differing_code-requires-clause-window
differing_code-requires-clause-window c = c.loop-w.invariant.window

pub returns-then-l-r : goal.returns-then-l-r
returns-then-l-r c = scan_done c.loop-w.invariant _ c.differing_code.ensures

pub overflow_add-result : goal.overflow_add-result
overflow_add-result c = omega (arith, returns-then-l-r c, c.loop-w.invariant.fits)

pub overflow_mul-result : goal.overflow_mul-result
overflow_mul-result c = omega (arith, overflow_add-result c)

pub overflow_add-closing : goal.overflow_add-closing
overflow_add-closing c = omega (arith, scan_rest c.loop-w.invariant (outer_pair c.loop-w-test.true c.rank_at-l.ensures c.mirror_rank_at-r.ensures) c.if-l-r.false, c.loop-w.invariant.fits)

pub overflow_mul-closing : goal.overflow_mul-closing
overflow_mul-closing c = omega (arith, overflow_add-closing c)

pub inner_window-w-requires-clause-window : goal.inner_window-w-requires-clause-window
inner_window-w-requires-clause-window c = c.loop-w.invariant.window

pub overflow_mul-scale : goal.overflow_mul-scale
overflow_mul-scale c = omega (arith, scale_fits c.loop-w.invariant c.loop-w-test.true)

pub loop-w-preserved : goal.loop-w-preserved
loop-w-preserved c =
    let e = c.inner_window-w.ensures in
    rw (e.place, e.shorter) (scan_within c.loop-w.invariant (outer_pair c.loop-w-test.true c.rank_at-l.ensures c.mirror_rank_at-r.ensures) c.if-l-r.false (rw (e.place, e.shorter) at e.inner))

pub rank_at-requires : goal.rank_at-requires
rank_at-requires c = omega (arith, c.loop-w.invariant.window.inside)

pub returns-then-w-eq1 : goal.returns-then-w-eq1
returns-then-w-eq1 c = scan_one c.loop-w.invariant _ _ c.if-w-eq1.true c.rank_at.ensures c.middle_code.ensures

pub overflow_add-result-then-w-eq1 : goal.overflow_add-result-then-w-eq1
overflow_add-result-then-w-eq1 c = omega (arith, returns-then-w-eq1 c, c.loop-w.invariant.fits)

pub overflow_mul-result-then-w-eq1 : goal.overflow_mul-result-then-w-eq1
overflow_mul-result-then-w-eq1 c = omega (arith, overflow_add-result-then-w-eq1 c)

pub returns-else-w-eq1 : goal.returns-else-w-eq1
returns-else-w-eq1 c = scan_none c.loop-w.invariant c.loop-w-test.false c.if-w-eq1.false
