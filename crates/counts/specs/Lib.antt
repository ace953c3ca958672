-- Which call a way names (Calls), which a reader must believe; and what the functions on counts ask of each other, on which no claim rests.
pub mod Calls
pub mod Needs
