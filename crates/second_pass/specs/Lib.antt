-- What the functions of the second pass ask and promise.
pub mod Needs
