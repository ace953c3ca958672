-- `kmer::kmer_mirror` meets its contract: what `words::mirror_of` answered, as one number, by the laws of `returned`.
use Rattle.std.proofs.Common.{arith}
use Rattle.returned.proofs.Refusals.{place_fits}
use Rattle.kmer.proofs.Refusals.{mirror-small}
use Rattle.kmer.proofs.kmer_mirror.Goals as goal

pub with_place-requires : goal.with_place-requires
with_place-requires c = place_fits c.mirror_of.ensures 62 (mirror-small _ _ _ _ _) (omega arith)
