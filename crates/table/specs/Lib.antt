-- What functions below the calls promise each other. What the calls answer and leave is defined in the crate tally_book.
pub mod Needs
