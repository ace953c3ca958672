-- Texts: numbers in decimal, and what writing a text leaves.
pub mod Decimals
pub mod Needs
