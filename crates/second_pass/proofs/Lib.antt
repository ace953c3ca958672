-- What the functions' proofs cite: the counts and the table after the second pass.
pub mod SecondPass
