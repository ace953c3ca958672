-- Document 01, "Sequence file (FASTA)" and "Grounds for refusing", and document 02, K1: the first ground for refusing a scan.
use Rattle.std.specs.Prelude.{Option}
use Rattle.settings.specs.Grounds.{Ground, ground, ◌or_else◌}
use Rattle.settings.specs.Settings.{settings_ground}
use Rattle.settings.specs.Limits.{too_long}
use Rattle.files.specs.File.{File, file_fault}
use Rattle.settings.specs.Given.{Given}

-- The grounds that apply to a scan, in the order of their numbers; 15 to 17 "stand where 10 and 11 stood".
unfoldable pub scan_ground : Given → File → Option Ground
scan_ground settings file = settings_ground settings or_else ground 6 (too_long file.bytes) or_else file_fault file
