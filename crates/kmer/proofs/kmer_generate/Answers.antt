-- `kmer::kmer_generate` meets its contract: what `generator::generate` answered, as one number; its P fits by `generate_small`.
use Rattle.std.proofs.Common.{arith}
use Rattle.returned.proofs.Refusals.{place_fits}
use Rattle.kmer.proofs.Refusals.{generate_small}
use Rattle.kmer.proofs.kmer_generate.Goals as goal

pub with_place-requires : goal.with_place-requires
with_place-requires c = place_fits c.generate-answer.ensures 16777216 (generate_small _ _ _ _ _) (omega arith)
