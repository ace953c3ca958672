-- Tables: the rule of the table, tested over all entries at once. LowLetters: the mirror of any number of letters, four a lookup.
pub mod Tables
pub mod LowLetters
