-- `program::run` meets its contract: what is written stands from the buffer's start on (`started`).
use Rattle.std.proofs.Common.{rules}
use Rattle.texts.proofs.Writing.{started}
use Rattle.program.proofs.Outputs.{printed}
use Rattle.program.proofs.run.Goals as goal

pub returns : goal.returns
returns c =
    rw c.place.ensures
    (printed (started c.new-w.ensures.unwritten c.new-w.ensures.start c.put_output.ensures.writes (search rules)) c.put_output.ensures.short)
