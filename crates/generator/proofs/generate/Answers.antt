-- `generator::generate` meets its contract: at each test the ground that applies, and else the text, written whole.
use Rattle.std.proofs.Common.{rules}
use Rattle.settings.proofs.Outcomes.{passed, passed_on}
use Rattle.texts.proofs.Writing.{started}
use Rattle.generator.proofs.Answers.{settings_refused, too_large, short_buffer, some_letters, written}
use Rattle.generator.proofs.generate.Goals as goal

pub returns-in_err-check : goal.returns-in_err-check
returns-in_err-check c = rw (passed_on _ _ c.from_residual.ensures.1) (settings_refused _ _ _ _ _ _ _ _ c.in_err-check.ensures)

pub returns-then-needed-gt-MOST_BYTES : goal.returns-then-needed-gt-MOST_BYTES
returns-then-needed-gt-MOST_BYTES c =
    too_large _ _ _ _ _ _ _ (passed _ _ c.in_ok-check.ensures).none_applies_lem _ c.needed_length-needed.ensures c.if-needed-gt-MOST_BYTES.true

pub returns-then-out-needed : goal.returns-then-out-needed
returns-then-out-needed c =
    short_buffer _ _ _ _ _ _ _ (passed _ _ c.in_ok-check.ensures).none_applies_lem _ c.needed_length-needed.ensures c.if-needed-gt-MOST_BYTES.false c.if-out-needed.true

pub put_records-requires : goal.put_records-requires
put_records-requires c = some_letters _ _ _ (passed _ _ c.in_ok-check.ensures).none_applies_lem

pub returns : goal.returns
returns c =
    written _ _ _ _ _ _ _ (passed _ _ c.in_ok-check.ensures).none_applies_lem _ c.needed_length-needed.ensures c.if-needed-gt-MOST_BYTES.false c.if-out-needed.false
    (started c.new-w.ensures.unwritten c.new-w.ensures.start c.put_records.ensures (search rules))
