-- The survey line: what the line read and the line printed share, as it is printed, what it is when it is read, what the reader answers and what is claimed of
-- it, and how it reads. Needs has what functions below the calls ask of each other.
pub mod Forms
pub mod Line
pub mod Grammar
pub mod Claims
pub mod Reading
pub mod Needs
