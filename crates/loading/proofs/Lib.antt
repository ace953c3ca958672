-- Cases: the definitions computed. What a listing is made of: Lines, Numbers, Words, Shapes (the line of a class, the total), SurveyShapes. Steps: line by line.
-- Theorems: the claims of document 02, K7. RefusalNumbers: what a refused load tells.
pub mod Cases
pub mod Lines
pub mod Numbers
pub mod Words
pub mod Shapes
pub mod SurveyShapes
pub mod Steps
pub mod Theorems
pub mod RefusalNumbers
