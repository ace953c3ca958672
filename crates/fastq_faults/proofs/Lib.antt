-- FASTQ's grounds, as functions meet them: a search for a byte that may not stand in a text (Searching), and record by record (Records).
pub mod Searching
pub mod Records
