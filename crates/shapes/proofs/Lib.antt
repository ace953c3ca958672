-- What the functions' proofs cite: Framed (shapes by their parts).
pub mod Framed
