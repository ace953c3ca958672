-- `files::scan` meets its contract: the grounds of proofs/ScanGrounds.antt, one at each test, and then what `scan_file` answers.
use Rattle.std.proofs.Common.{◌∙◌, arith}
use Rattle.settings.proofs.Outcomes.{passed_on}
use Rattle.files.proofs.ScanGrounds.{bad_settings, few_letters, some_k, long_file, scanned}
use Rattle.files.proofs.scan.Goals as goal

pub returns-in_err-check : goal.returns-in_err-check
returns-in_err-check c = passed_on _ _ c.from_residual.ensures.1 ∙ bad_settings _ _ _ _ _ c.in_err-check.ensures

pub returns-then-file-gt-MOST_BYTES : goal.returns-then-file-gt-MOST_BYTES
returns-then-file-gt-MOST_BYTES c = long_file _ _ _ _ c.in_ok-check.ensures (omega arith)

pub new-ranks-requires : goal.new-ranks-requires
new-ranks-requires c = few_letters _ _ _ c.in_ok-check.ensures

pub scan_file-requires : goal.scan_file-requires
scan_file-requires c = (omega arith, some_k _ _ _ c.in_ok-check.ensures)

pub returns : goal.returns
returns c = c.scan_file.ensures ∙ scanned _ _ _ _ c.in_ok-check.ensures _ c.new-ranks.ensures (omega arith)
