-- The survey line part by part.
pub mod LineParts
