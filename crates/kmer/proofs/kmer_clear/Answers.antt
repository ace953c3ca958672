-- `kmer::kmer_clear` meets its contract: what `table::clear` answered, as one number, by the laws of `returned`; its P fits by
-- `clear_small`.
use Rattle.std.proofs.Common.{arith}
use Rattle.returned.proofs.Refusals.{place_fits}
use Rattle.kmer.proofs.Refusals.{clear_small}
use Rattle.kmer.proofs.kmer_clear.Goals as goal

pub with_place-requires : goal.with_place-requires
with_place-requires c = place_fits c.clear.ensures 16777216 (clear_small _ _ _ _) (omega arith)
