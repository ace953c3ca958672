-- `table::room_for` meets its contract: the grounds 6 and 7 at its tests.
use Rattle.std.proofs.Common.{arith}
use Rattle.table.proofs.CallGrounds.{room_many, room_short, room_given}
use Rattle.table.proofs.room_for.Goals as goal

pub returns-then-st-gt-MOST_CLASSES : goal.returns-then-st-gt-MOST_CLASSES
returns-then-st-gt-MOST_CLASSES c = room_many _ _ (omega arith)

pub returns-then-room-classes : goal.returns-then-room-classes
returns-then-room-classes c = room_short _ _ (omega arith) (omega arith)

pub returns : goal.returns
returns c = room_given _ _ (omega arith) (omega arith)
