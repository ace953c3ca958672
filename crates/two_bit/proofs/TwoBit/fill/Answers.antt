-- `TwoBit::fill` meets its contract: each turn rolls on to the next window and writes its code (Rolls).
use Rattle.std.proofs.Common.{◌∙◌, ap}
use Rattle.encoding.specs.Words.{Complement}
use Rattle.encoding.specs.Codes.{code}
use Rattle.windows.proofs.Lasts.{lasts_end}
use Rattle.windows.proofs.Filling.{fills_none, codes_none, codes_next, codes_all}
use Rattle.two_bit.proofs.Rolls.{rolled_first, step}
use Rattle.two_bit.proofs.TwoBit.fill.Goals as goal

pub returns-then-ranks-k : goal.returns-then-ranks-k
returns-then-ranks-k c = fills_none _ _ _ _ _ c.if-ranks-k.true

pub loop-j-init : goal.loop-j-init
loop-j-init c = (
  rolled_first _ c.args.self.now.some _ c.requires.ranks c.if-ranks-k.false c.plain_rank-x.ensures,
  codes_none 4 Complement _ c.args.self.now.some _ _ c.requires.room,
)

pub window_code-requires : goal.window_code-requires
window_code-requires c = (step c.args.self.now.some c.requires.ranks c.if-ranks-k.false c.loop-j-test.true c.loop-j.invariant.0 c.next_rank-x.ensures).below

pub loop-j-preserved : goal.loop-j-preserved
loop-j-preserved c =
    let turn = step c.args.self.now.some c.requires.ranks c.if-ranks-k.false c.loop-j-test.true c.loop-j.invariant.0 c.next_rank-x.ensures in
    (turn.rolled, codes_next 4 Complement _ c.args.self.now.some _ c.loop-j.invariant.1 _ turn.inside (c.window_code.ensures ∙ ap (code 4 Complement _) turn.word))

pub returns : goal.returns
returns c = codes_all 4 Complement _ c.args.self.now.some _ c.loop-j.invariant.1 (lasts_end _ _ c.args.self.now.some c.if-ranks-k.false c.loop-j-test.false)
