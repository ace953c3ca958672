-- What the C calls return and read as numbers. Needs has what functions ask of each other; no claim rests on it.
pub mod Returned
pub mod FileNumbers
pub mod Needs
