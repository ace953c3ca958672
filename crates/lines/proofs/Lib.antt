-- The laws of lines. Searching: stretches without LF. Lines: the lines of a text from a place on, and that they are the text. Texts: where a line's text
-- ends. Mapped: a text with other bytes in place of its own. Cases: the definitions computed.
pub mod Searching
pub mod Lines
pub mod Texts
pub mod Mapped
pub mod Cases
