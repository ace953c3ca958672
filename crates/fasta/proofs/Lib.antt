-- The laws of sequence files. Cases: the definitions computed on small files. Runs: letters = windows + foreign + edge. Stream: windows and
-- edges as the letters come in one by one. Bytes, Ranks, Skipping, Scans: the scanner. Faults: what is known of the first fault. Copies: with T for U.
pub mod Cases
pub mod Runs
pub mod Stream
pub mod Bytes
pub mod Ranks
pub mod Scans
pub mod Skipping
pub mod Faults
pub mod Copies
