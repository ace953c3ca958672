-- What the functions' proofs cite: words a place at a time, and what each call answers at each of its tests.
pub mod LetterLoops
pub mod RanksByTable
pub mod Filled
pub mod TwoWords
pub mod CallGrounds
pub mod CodeAnswers
pub mod ReadAnswers
pub mod MirrorAnswers
pub mod PickAnswers
