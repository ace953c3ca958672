-- Laws of tests, numbers and lists.
pub mod Tests
pub mod Powers
pub mod DigitWindows
pub mod Lists
pub mod Each
pub mod Sums
pub mod Windows
pub mod Buffers
