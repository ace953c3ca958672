-- Laws of texts.
pub mod Decimals
pub mod Writing
