-- `sequence::bytes::blank` meets its contract: the window that ends with each byte keeps its code where the run is as long as it is (Blanks).
use Rattle.std.proofs.Common.{refl, length-set}
use Rattle.sequence.proofs.Blanks.{blanking_first, blanking_byte, blanking_done}
use Rattle.sequence.proofs.bytes.blank.Goals as goal

pub loop-j-init : goal.loop-j-init
loop-j-init c = (blanking_first c.requires.some c.if-bytes-k.false c.first_run-run.ensures, refl)

pub loop-j-preserved : goal.loop-j-preserved
loop-j-preserved c = (
  blanking_byte c.requires.some c.if-bytes-k.false c.requires.room c.loop-j.invariant.0 c.loop-j-test.true c.next_run-run.ensures c.kept.ensures,
  simp length-set c.loop-j.invariant.1,
)

pub returns : goal.returns
returns c = blanking_done c.requires.some c.if-bytes-k.false c.loop-j.invariant.0 c.loop-j-test.false
