-- `settings::reads_u_as_t` meets its contract: the definition is the same conjunction.
use Rattle.settings.specs.Settings.{reads_u_as_t}
use Rattle.settings.proofs.reads_u_as_t.Goals as goal

pub returns-then-is_in : goal.returns-then-is_in
unfolding reads_u_as_t
returns-then-is_in c = rw (c.is_in-then-is_in.ensures, ← c.if-is_in.ensures)

pub returns-else-is_in : goal.returns-else-is_in
unfolding reads_u_as_t
returns-else-is_in c = rw (c.if-is_in.false, ← c.if-is_in.ensures)
