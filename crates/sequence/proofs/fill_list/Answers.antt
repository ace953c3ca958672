-- `sequence::fill_list` meets its contract: a ground at each test (SequenceGrounds).
use Rattle.std.proofs.Common.{arith}
use Rattle.settings.proofs.Outcomes.{passed_on, passed}
use Rattle.kernels.proofs.GoodSettings.{good}
use Rattle.sequence.proofs.RankTables.{Bytes}
use Rattle.sequence.proofs.SequenceGrounds.{settings_refused, too_large, too_short_lem, all_filled}
use Rattle.sequence.proofs.fill_list.Goals as goal

pub returns-in_err-st : goal.returns-in_err-st
returns-in_err-st c =
    rw (passed_on _ _ c.from_residual.ensures.1) (settings_refused _ _ _ _ _ _ c.in_err-st.ensures)

pub returns-then-sequence-gt-MOST_BYTES : goal.returns-then-sequence-gt-MOST_BYTES
returns-then-sequence-gt-MOST_BYTES c = too_large _ _ _ _ _ (passed _ _ c.in_ok-st.ensures).none_applies_lem c.if-sequence-gt-MOST_BYTES.true

pub returns-then-list-needed : goal.returns-then-list-needed
returns-then-list-needed c =
    too_short_lem _ _ _ _ _ (passed _ _ c.in_ok-st.ensures).none_applies_lem c.if-sequence-gt-MOST_BYTES.false _ c.window_count-needed.ensures c.if-list-needed.true

pub new-coder-requires-clause-good : goal.new-coder-requires-clause-good
new-coder-requires-clause-good c =
    let ok = passed _ _ c.in_ok-st.ensures in
    good _ _ _ _ ok.none_applies_lem ok.value

pub returns : goal.returns
returns c =
    let ok = passed _ _ c.in_ok-st.ensures in
    let bytes : Bytes c.args.sequence.now = record { below = λ i h. omega (arith, c.type_inv.sequence i) } in
    all_filled _ _ _ _ _ ok.none_applies_lem c.if-sequence-gt-MOST_BYTES.false _ c.window_count-needed.ensures c.if-list-needed.false ok.value c.new-coder.ensures bytes
    c.fill_sequence.ensures
