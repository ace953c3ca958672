-- What coding a word of ranks and writing the word of a code ask.
pub mod Needs
