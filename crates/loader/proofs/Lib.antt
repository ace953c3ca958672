-- What the functions' proofs cite: Judged (one line), Loops (line by line), Setting (the counts), LoadAnswers (the call from its steps).
pub mod Judged
pub mod Loops
pub mod Setting
pub mod LoadAnswers
