-- What the functions' proofs cite: CountLoops (counting codes, the highest count), Taking (taking codes away, ground 18).
pub mod CountLoops
pub mod Taking
