-- `RankCoder::fill_codes` meets its contract. By the contract of either kernel; the two-bit one takes four letters under complement (Coders).
use Rattle.kernels.proofs.Coders.{rank_coder_ranks, rank_coder_small, rank_coder_count, rank_coder_codes}
use Rattle.kernels.proofs.RankCoder.fill_codes.Goals as goal

pub invariant_of-words-in-TwoBit-clause-small : goal.invariant_of-words-in-TwoBit-clause-small
invariant_of-words-in-TwoBit-clause-small c = rank_coder_small c.args.self.now c.in-TwoBit.is

pub invariant_of-words-in-TwoBit-clause-count : goal.invariant_of-words-in-TwoBit-clause-count
invariant_of-words-in-TwoBit-clause-count c = rank_coder_count c.args.self.now c.in-TwoBit.is

pub fill-requires-in-TwoBit-clause-ranks : goal.fill-requires-in-TwoBit-clause-ranks
fill-requires-in-TwoBit-clause-ranks c = rank_coder_ranks c.args.self.now c.in-TwoBit.is _ c.requires.ranks

pub returns-in-TwoBit : goal.returns-in-TwoBit
returns-in-TwoBit c = rank_coder_codes c.args.self.now c.in-TwoBit.is c.args.ranks.now c.fill-in-TwoBit.ensures
