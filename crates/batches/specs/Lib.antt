-- What the functions that count a file ask of each other; no claim rests on it.
pub mod Needs
