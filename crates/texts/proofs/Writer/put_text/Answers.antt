-- `texts::Writer::put_text` meets its contract: each byte leaves one less to write.
use Rattle.std.proofs.Common.{[], ◌∷◌}
use Rattle.std.proofs.lemmas.List.{drop_more, drop_all}
use Rattle.texts.proofs.Writing.{lacks_all, lacks_less, lacks_none}
use Rattle.texts.proofs.Writer.put_text.Goals as goal

pub loop-b-init : goal.loop-b-init
loop-b-init c = lacks_all _ _

pub loop-b-preserved : goal.loop-b-preserved
loop-b-preserved c =
    lacks_less (_ ∷ []) (rw (drop_more c.args.text.now c.loop-b.b-index 0 c.loop-b-test.true) at c.loop-b.invariant) c.put_byte.ensures

pub returns : goal.returns
returns c = lacks_none (rw (drop_all c.loop-b.b-index c.args.text.now c.loop-b-test.false) at c.loop-b.invariant)
