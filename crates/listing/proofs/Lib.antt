-- Computed cases, and laws of listings.
pub mod Cases
pub mod Lines
pub mod Lengths
pub mod ListingAnswers
