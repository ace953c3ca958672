-- What the functions' proofs cite: from a word to its code (Scan, Shifts, DigitValues, OwnAndMirror), from a code to its word (ReadSteps).
pub mod Scan
pub mod Shifts
pub mod DigitValues
pub mod OwnAndMirror
pub mod ReadSteps
