-- `sequence::bytes::read_ranks` meets its contract: each byte's rank is written, and it is a letter or none.
use Rattle.std.proofs.Common.{◌∙◌, refl, sym, arith, get_or}
use Rattle.settings.specs.RankTables.{rank_by_table}
use Rattle.sequence.proofs.RankTables.{length-ranks_by, ranks_by_at}
use Rattle.sequence.proofs.Blanks.{ranked_next, ranked_done, rank_written}
use Rattle.laws.proofs.Buffers.{written_none, written_next}
use Rattle.sequence.proofs.bytes.read_ranks.Goals as goal

pub loop-i-init : goal.loop-i-init
loop-i-init c = (written_none _ _ (omega (arith, length-ranks_by (rank_by_table c.args.table.now) c.args.bytes.now)), refl)

pub loop-i-preserved : goal.loop-i-preserved
loop-i-preserved c =
    let table = c.args.table.now in
    let bytes = c.args.bytes.now in
    let rank = rank_by_table table in
    let written = c.unwrap_or.ensures ∙ rw c.rank-rank.ensures (rank_written (rank (get_or bytes c.loop-i.i 0)) ∙ sym (ranks_by_at rank bytes c.loop-i.i c.loop-i-test.true)) in
    let known = c.is_some-all.ensures ∙ rw c.rank-rank.ensures in (
      written_next c.loop-i.invariant.0 _ (omega (arith, length-ranks_by rank bytes)) written,
      rw known (ranked_next rank bytes c.loop-i.i c.loop-i.all c.loop-i-test.true c.loop-i.invariant.1),
    )

pub returns-clause-value : goal.returns-clause-value
returns-clause-value c = ranked_done _ _ _ _ c.loop-i-test.false c.loop-i.invariant.1
