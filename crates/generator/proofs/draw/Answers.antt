-- `generator::draw` meets its contract. The invariant, `DrawnTo`: the places before the present one have their letters.
use Rattle.std.proofs.Common.{length, get_or, ap, ◌∙◌, ℕ, arith}
use Rattle.testload.specs.TestLoad.{drawn_rank}
use Rattle.testload.proofs.Drawn.{rank_below}
use Rattle.generator.proofs.Drawing.{drawn_first, drawn_more, drawn_whole, drawn_state}
use Rattle.generator.proofs.draw.Goals as goal

pub loop-place-init : goal.loop-place-init
loop-place-init c = drawn_first _ _ _

pub bounds-letters-rank : goal.bounds-letters-rank
bounds-letters-rank c = rw c.rank_of_state-rank.ensures (rank_below (length c.args.letters.now) _ c.requires.some (omega arith))

pub loop-place-preserved : goal.loop-place-preserved
loop-place-preserved c =
    let letters = c.args.letters.now in
    let letter = ap (λ (r : ℕ). get_or letters r 0) (c.rank_of_state-rank.ensures ∙ ap (drawn_rank (length letters)) c.step-state.ensures) in
    drawn_more c.loop-place.invariant c.loop-place-test.true letter c.step-state.ensures

pub returns-clause-drawn : goal.returns-clause-drawn
returns-clause-drawn c = drawn_whole c.loop-place.invariant c.loop-place-test.false

pub returns-clause-goes_on : goal.returns-clause-goes_on
returns-clause-goes_on c = drawn_state c.loop-place.invariant c.loop-place-test.false
