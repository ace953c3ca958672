-- Definitions that several parts of document 01 share.
pub mod Text
pub mod Windows
pub mod Each
