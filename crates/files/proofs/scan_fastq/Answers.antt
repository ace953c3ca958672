-- `files::scan_fastq` meets its contract: a file without a fault has no item that the scan refuses.
use Rattle.std.proofs.Common.{◌∙◌}
use Rattle.files.proofs.ScanGrounds.{scan_clean}
use Rattle.files.proofs.scan_fastq.Goals as goal

pub returns : goal.returns
returns c = c.scan_items.ensures ∙ scan_clean c.args.file.now _ c.in_ok-fastq_fault.ensures
