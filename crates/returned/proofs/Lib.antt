-- What the functions' proofs and those of the C calls cite.
pub mod Refusals
