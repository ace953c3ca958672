-- `texts::Writer::put_byte` meets its contract: the byte is set where the buffer has a place for it, and else nothing changes (`set_out`).
use Rattle.std.proofs.Common.{sym}
use lib.Seq.{set_out}
use Rattle.texts.proofs.Writer.put_byte.Goals as goal
use Rattle.texts.proofs.Writer.put_byte.Goals.{then-self, else-self}

pub returns : goal.returns
returns c =
    elim c.if-self.branch [
      | then-self w ↦
          record {
            buffer = rw w.self-is;
            puts = record { place = rw w.self-is at c.saturating_add-self.ensures; leaves = rw w.self-is; bounded = c.args.self.now.bounded };
          }
      | else-self w ↦
          record {
            buffer = rw w.self-is;
            puts = record {
              place = rw w.self-is at c.saturating_add-self.ensures;
              leaves = rw w.self-is (sym (set_out _ _ _ w.if-self.false));
              bounded = c.args.self.now.bounded;
            };
          }
    ]
