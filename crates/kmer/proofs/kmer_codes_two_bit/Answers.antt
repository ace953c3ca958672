-- `kmer::kmer_codes_two_bit` meets its contract: what `sequence::codes_two_bit` answered, as one number, by the laws of `returned`.
use Rattle.std.proofs.Common.{arith}
use Rattle.returned.proofs.Refusals.{place_fits}
use Rattle.kmer.proofs.Refusals.{sequence_small}
use Rattle.kmer.proofs.kmer_codes_two_bit.Goals as goal

pub with_place-requires : goal.with_place-requires
with_place-requires c = place_fits c.codes_two_bit.ensures 16777216 (sequence_small _ _ _ _ _) (omega arith)
