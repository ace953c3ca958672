-- `table::call` meets its contract: a refusal by `ready` stands, then a fault that the scan finds, and else what the second pass gives.
use Rattle.settings.proofs.Outcomes.{passed_on}
use Rattle.second_pass.proofs.SecondPass.{file_of_lem}
use Rattle.files.specs.File.{as_file}
use Rattle.table.proofs.CallGrounds.{not_ready, coder_good, can_scan, long_enough, scan_refused, windows_few, call_done}
use Rattle.table.proofs.call.Goals as goal

pub returns-in_err-st : goal.returns-in_err-st
returns-in_err-st c =
    rw (passed_on _ _ c.from_residual.ensures.1) (not_ready _ _ _ _ _ _ (file_of_lem c.args.way _) _ c.in_err-st.ensures)

pub new-coder-requires-clause-good : goal.new-coder-requires-clause-good
new-coder-requires-clause-good c = coder_good _ _ _ _ (as_file c.args.file.now) c.in_ok-st.ensures

pub scan_file-requires : goal.scan_file-requires
scan_file-requires c = can_scan _ _ _ _ (as_file c.args.file.now) c.in_ok-st.ensures

pub returns-in_err-n : goal.returns-in_err-n
returns-in_err-n c =
    rw (passed_on _ _ c.from_residual-in_err-n.ensures.1) (scan_refused _ _ _ _ (as_file c.args.file.now) c.in_ok-st.ensures c.args.way _ _ c.in_err-n.ensures)

pub call_scanned-requires-clause-long_enough : goal.call_scanned-requires-clause-long_enough
call_scanned-requires-clause-long_enough c = long_enough _ _ _ _ (as_file c.args.file.now) c.in_ok-st.ensures

pub call_scanned-requires-clause-few_windows : goal.call_scanned-requires-clause-few_windows
call_scanned-requires-clause-few_windows c = windows_few _ _ _ _ (as_file c.args.file.now) c.in_ok-st.ensures c.new-coder.ensures c.in_ok-n.ensures

pub returns : goal.returns
returns c = call_done _ _ _ _ (as_file c.args.file.now) c.in_ok-st.ensures c.new-coder.ensures c.in_ok-n.ensures c.args.way c.call_scanned.ensures
