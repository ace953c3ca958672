-- `sequence::batches::fill_batch` meets its contract: codes of the ranks, then blanks (Pieces).
use Rattle.std.proofs.Common.{arith}
use Rattle.sequence.proofs.RankTables.{Bytes, ranks_below}
use Rattle.sequence.proofs.Pieces.{batch_numbers, batch_letters}
use Rattle.sequence.proofs.batches.fill_batch.Goals as goal

pub fill_codes-requires-clause-ranks : goal.fill_codes-requires-clause-ranks
fill_codes-requires-clause-ranks c =
    let bytes : Bytes c.args.bytes.now = record { below = λ i h. omega (arith, c.type_inv.bytes i) } in
    let coder = c.args.coder.now in
    rw c.read_ranks-all_letters.ensures.ranks_after (ranks_below coder.ranks_below (omega (arith, coder.limits.two)) c.args.bytes.now bytes)

pub returns-then-not-all_letters : goal.returns-then-not-all_letters
returns-then-not-all_letters c =
    batch_numbers _ _ _ _ _ _ c.read_ranks-all_letters.ensures.ranks_after c.args.coder.now.some c.requires.room c.fill_codes.ensures c.blank.ensures

pub returns-else-not-all_letters : goal.returns-else-not-all_letters
returns-else-not-all_letters c =
    batch_letters _ _ _ _ _ _ c.read_ranks-all_letters.ensures.ranks_after c.args.coder.now.some c.requires.room c.fill_codes.ensures
    _ c.read_ranks-all_letters.ensures.value c.if-not-all_letters.false
