-- What a reader must believe of sequence files of both kinds: a file with its kind, its items, its first fault, its windows and numbers (File), and the
-- grounds of a scan (Scan); copies with T for U (Copies).
pub mod File
pub mod Scan
pub mod Copies
