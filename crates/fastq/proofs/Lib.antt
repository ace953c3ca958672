-- The laws of FASTQ. Cases: the definitions computed. StrayBytes: ground 10 by the items of a sequence line. OnlySequence: the windows and numbers of a file
-- to which no ground applies are those of its sequence lines, and a scan meets no fault in it. Faults: which grounds a file has, and how large P is.
-- Copies: with T for U.
pub mod Cases
pub mod StrayBytes
pub mod OnlySequence
pub mod Faults
pub mod Copies
