-- The codes of the windows of a list of ranks (Windows), which a reader must believe; and how a kernel writes them (Needs).
pub mod Windows
pub mod Needs
