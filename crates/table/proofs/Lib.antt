-- What the functions' proofs cite: what the calls answer and leave at each of their tests.
pub mod CallGrounds
