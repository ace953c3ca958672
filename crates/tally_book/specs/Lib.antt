-- What a reader must believe of the table: what the calls answer and leave (Table), the tally book (Book), demand 3 (Demand), calls on copies of files
-- (Copies). Needs has what laws, and functions of the crates counts and batches, speak of.
pub mod Table
pub mod Book
pub mod Demand
pub mod Copies
pub mod Needs
