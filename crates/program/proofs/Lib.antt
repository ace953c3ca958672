-- Computed cases, laws of the program's output, the survey line in it, the same output for a copy with T for U, and when it prints the refusals 3 (never),
-- 13 and 19.
pub mod Cases
pub mod Outputs
pub mod SurveyLines
pub mod Copies
pub mod RefusalNumbers
