-- How answers of the functions of this crate are read, and what they ask of each other.
pub mod Needs
