-- The loops of this function: what holds at each turn, and what falls.
use Rattle.std.proofs.Common.{◌-◌, ◌≤◌, length}
use Rattle.settings.specs.RankTables.{rank_by_table}
use Rattle.fasta.proofs.Scans.{Scanning}
use Rattle.fasta.proofs.scan_items.Given as goal

abbrev pub invariant-loop-i : goal.invariant-loop-i
invariant-loop-i l = (length l.file ≤ 16777216) × Scanning l.file l.initial.mode (rank_by_table l.ranks) l.k l.mode l.scanned l.i

abbrev pub decreases-loop-i : goal.decreases-loop-i
decreases-loop-i l = length l.file - l.i
