-- The laws of the settings, from the plainest up.
pub mod Outcomes
pub mod FirstGround
pub mod Powers
pub mod Limits
pub mod Ranks
pub mod Copies
pub mod RankTables
pub mod Letters
pub mod Parity
pub mod ClassCount
pub mod SettingsGrounds
pub mod LetterPlaces
