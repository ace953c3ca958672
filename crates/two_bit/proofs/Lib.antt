-- Laws of the kernel by two-bit numbers: the code of a window from two plain ranks (TwoRanks), and from one window to the next (Rolls).
pub mod TwoRanks
pub mod Rolls
