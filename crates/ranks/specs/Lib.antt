-- What functions on words of ranks ask.
pub mod Needs
