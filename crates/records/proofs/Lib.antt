-- The laws of the record reader. Cases: the definitions computed on small files. Searches: the first header, the end of a line. Reading: reading with a
-- reader until none gives all records; the search for the record with a number. Counting: scanner and reader agree on the number of records.
pub mod Cases
pub mod Searches
pub mod Reading
pub mod Counting
