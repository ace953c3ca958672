-- What a reader must believe of the encoding, in the order of document 01 (WordsOfCodes need not be believed: theorems tie it to Codes), with what is claimed
-- of its formulas (Exact); and, last, what laws and the functions of crates above speak of on the way.
pub mod Words
pub mod Codes
pub mod Exact
pub mod WordsOfCodes
pub mod Calls
pub mod Needs
