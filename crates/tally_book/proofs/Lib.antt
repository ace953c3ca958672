-- The laws of the table, up to the theorems of demand 3. Changes: counts that grow and fall. Some, Full, Lacks: tests of all classes, grounds 12 and 18. WordLists, FileWords,
-- Classes: all canonical words, the windows of a file, places and classes. SameGrounds, Steps: one call beside the book. TakenIn: the files that a list of
-- calls takes in and out. Clearing, Ready: what is known where no ground applies, to a clearing and before a file is read. DemandThree: the theorems.
-- GivenBack: an add and then a withdrawal of the same file. Copies: files and their copies with T for U. RefusalNumbers: which refusals the table calls give.
-- Cases: the definitions computed on small files.
pub mod Changes
pub mod Some
pub mod Full
pub mod Lacks
pub mod WordLists
pub mod FileWords
pub mod Classes
pub mod SameGrounds
pub mod Steps
pub mod TakenIn
pub mod Clearing
pub mod Ready
pub mod DemandThree
pub mod GivenBack
pub mod Copies
pub mod RefusalNumbers
pub mod Cases
