-- What the functions below the call ask of each other; no claim rests on it.
pub mod Needs
