-- `kmer::kmer_withdraw` meets its contract: the P of a refused call fits beside its number.
use Rattle.kmer.proofs.FileCalls.{told_fits}
use Rattle.kmer.proofs.kmer_withdraw.Goals as goal

pub with_place-requires : goal.with_place-requires
with_place-requires c = told_fits _ _ _ _ _ _ c.call_into.ensures
