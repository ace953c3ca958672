-- What the proofs of the C calls cite; last, the theorems of demand 3 of these calls, that of copies with T for U, loading, and which refusals each call gives;
-- and the definitions of demand 3 computed on three calls.
pub mod Refusals
pub mod FileCalls
pub mod Listings
pub mod DemandThree
pub mod Copies
pub mod Loads
pub mod RefusalNumbers
pub mod Cases
