-- The laws of the codes along a sequence, from the plainest up.
pub mod RankTables
pub mod Blanks
pub mod Pieces
pub mod SequenceGrounds
pub mod Theorems
pub mod Copies
