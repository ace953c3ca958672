-- `generator::put_records` meets its contract. The invariant, `Recording`: which records are still to be written.
use Rattle.generator.proofs.Drawing.{recording_all, record_on, recording_none}
use Rattle.generator.proofs.put_records.Goals as goal

pub loop-i-init : goal.loop-i-init
loop-i-init c = let a = c.args in recording_all _ a.letters.now a.each a.records a.start

pub loop-i-preserved : goal.loop-i-preserved
loop-i-preserved c =
    let a = c.args in
    record_on a.letters.now a.each a.records a.start c.loop-i.i c.loop-i.state c.loop-i-test.true c.loop-i.invariant c.put_record-state.ensures.text c.put_record-state.ensures.goes_on

pub returns : goal.returns
returns c = let a = c.args in recording_none a.letters.now a.each a.records a.start c.loop-i.i c.loop-i.state c.loop-i-test.false c.loop-i.invariant
