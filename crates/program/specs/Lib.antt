-- What the counter program prints. Needs has what functions below `run` promise each other.
pub mod Program
pub mod Needs
