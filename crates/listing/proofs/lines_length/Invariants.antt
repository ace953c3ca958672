-- The loop of this function: the lines of the counts before the index are summed up, each of at most 82 bytes.
use Rattle.std.proofs.Common.{◌≡◌, ◌+◌, ◌*◌, ◌≤◌, drop}
use Rattle.listing.specs.Needs.{lines_length}
use Rattle.listing.proofs.lines_length.Given as goal

abbrev pub invariant-loop-n : goal.invariant-loop-n
invariant-loop-n l = (lines_length l.k l.counts ≡ l.sum + lines_length l.k (drop l.n-index l.counts)) × (l.sum ≤ 82 * l.n-index)
