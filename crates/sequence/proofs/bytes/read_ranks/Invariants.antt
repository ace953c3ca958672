-- The loop of this function: the ranks of the first i bytes are written, and all bytes are letters where those are and the ones left.
use Rattle.std.proofs.Common.{◌≡◌, ◌&&◌, drop}
use Rattle.settings.specs.RankTables.{rank_by_table}
use Rattle.words.specs.Needs.{ranks_by}
use Rattle.sequence.specs.Needs.{all_ranked}
use Rattle.laws.proofs.Buffers.{Written}
use Rattle.sequence.proofs.bytes.read_ranks.Given as goal

abbrev pub invariant-loop-i : goal.invariant-loop-i
invariant-loop-i l = Written (ranks_by (rank_by_table l.table) l.bytes) l.initial.ranks l.i l.ranks × (all_ranked (rank_by_table l.table) l.bytes ≡ (l.all && all_ranked (rank_by_table l.table) (drop l.i l.bytes)))
