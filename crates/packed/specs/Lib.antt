-- The mirror of packed letters by a table: the table's rule (Mirrors), which a reader must believe; and, last, what the functions ask of each other.
pub mod Mirrors
pub mod Needs
