-- What a reader must believe of sequence files: what is cut from a file (Items), what each byte of a file is and the first fault of FASTA (File).
-- Needs has what functions below the calls ask of each other.
pub mod Items
pub mod File
pub mod Needs
