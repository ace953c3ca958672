-- Lengths: how long a test load is. Drawing: letters and records, one after the other. Answers: of the call. Products: the wrapping product by halves.
pub mod Lengths
pub mod Drawing
pub mod Answers
pub mod Products
