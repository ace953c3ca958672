-- `ranks::fill_mirror` meets its contract: each turn writes one letter more of the mirror.
use Rattle.std.proofs.Common.{arith}
use Rattle.std.proofs.lemmas.List.{length_push}
use Rattle.std.proofs.lemmas.Iterator.Adapters.{YieldsList-from_rev_slice}
use Rattle.std.proofs.lemmas.Iterator.Consumers.{YieldsList-from_enumerate, YieldsList-turn, YieldsList-end}
use Rattle.laws.proofs.Buffers.{written_none}
use Rattle.encoding.proofs.Ends.{length-mirror}
use Rattle.ranks.proofs.RankLoops.{mirror_turn, mirror_end}
use Rattle.ranks.proofs.fill_mirror.Goals as goal

pub loop-i-init : goal.loop-i-init
loop-i-init c = written_none _ _ (omega (arith, length-mirror c.args.s c.args.m c.args.w.now, c.requires.1))

pub loop-i-preserved : goal.loop-i-preserved
loop-i-preserved c =
    let t = YieldsList-turn (YieldsList-from_enumerate (YieldsList-from_rev_slice c.args.w.now cc) cc) c.loop-i.yielded _ c.loop-i.yielded_by _ _ _ c.in-Some.is c.next.ensures.steps in
    rw (length_push c.loop-i.yielded (c.in-Some.i, c.in-Some.rank)) (mirror_turn c.args.s c.args.m c.args.w.now c.loop-i.invariant t c.mirror_rank.ensures)

pub returns : goal.returns
returns c =
    let t = YieldsList-end (YieldsList-from_enumerate (YieldsList-from_rev_slice c.args.w.now cc) cc) c.loop-i.yielded _ c.loop-i.yielded_by _ _ c.in-None.is c.next.ensures.steps in
    mirror_end c.args.s c.args.m c.args.w.now c.loop-i.invariant t.1
