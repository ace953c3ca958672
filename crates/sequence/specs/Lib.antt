-- What a reader must believe of the codes along a sequence; and, last, what functions below the calls ask of each other.
pub mod Sequences
pub mod Needs
