-- What a reader must believe of the lines of a text (Lines). Needs has what laws, and functions below the calls, speak of.
pub mod Lines
pub mod Needs
