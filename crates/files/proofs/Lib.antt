-- The laws of files of both kinds. Cases: the order of a scan's grounds, computed. ScanGrounds: the scan. FaultNumbers: which refusals a file and a scan give.
-- Copies: with T for U.
pub mod Cases
pub mod ScanGrounds
pub mod FaultNumbers
pub mod Copies
