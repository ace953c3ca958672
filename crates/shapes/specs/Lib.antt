-- What functions ask of each other.
pub mod Needs
