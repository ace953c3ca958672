-- How the answers of the word calls are read, the contracts of reading a code and mirroring, and what the pick hands back, which a reader must believe; and, last,
-- what functions below the calls ask of each other. The grounds, answers and texts of the calls are defined in the crate `encoding`.
pub mod Answers
pub mod Needs
