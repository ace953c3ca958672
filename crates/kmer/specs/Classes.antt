-- What `kmer_classes` tells, a further call of ours: how many places a table needs.
use Rattle.std.specs.Prelude.{List, ℕ}
use Rattle.settings.specs.Grounds.{Outcome, outcome}
use Rattle.settings.specs.Settings.{settings_ground}
use Rattle.tally_book.specs.Table.{class_count}
use Rattle.settings.specs.Given.{Given}

-- The number of classes, or the first of the grounds 1 to 4 that applies.
abbrev pub class_counting : (settings : Given) → Outcome ℕ
class_counting settings = outcome (settings_ground settings) (class_count settings)
