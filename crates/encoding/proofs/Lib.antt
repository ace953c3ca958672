-- The theory of the encoding, from the plainest laws up to the theorems that docs/CLAIMS.md cites.
pub mod Ends
pub mod ClassNumbers
pub mod Pairs
pub mod Canonical
pub mod Recursion
pub mod Plain
pub mod Bijection
pub mod Codes
pub mod CodesByEnds
pub mod Bounds
pub mod ByRanks
pub mod EqualPairs
pub mod Palindromes
pub mod Copies
pub mod Exact
pub mod Cases
pub mod Theorems
