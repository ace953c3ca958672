-- `loader::judge::Judge::new` meets its contract: good settings have at most 16 letters.
use Rattle.settings.proofs.SettingsGrounds.{good_settings}
use Rattle.loader.proofs.judge.Judge.new.Goals as goal

pub new-ranks-requires : goal.new-ranks-requires
new-ranks-requires c = (good_settings _ _ _ c.requires.table.good).few
