-- The listing of a table. Needs has what functions below the call ask of each other.
pub mod Listing
pub mod Needs
