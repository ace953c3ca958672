-- What the functions of the program ask of each other and promise each other.
pub mod Needs
