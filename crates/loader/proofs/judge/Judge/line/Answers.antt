-- `loader::judge::Judge::line` meets its contract. By what belongs next.
use Rattle.loader.proofs.Judged.{none_belongs}
use Rattle.loader.proofs.judge.Judge.line.Goals as goal

pub returns-in-Nothing : goal.returns-in-Nothing
returns-in-Nothing c = rw c.in-Nothing.is (none_belongs _ _ _)
