-- What a reader must believe of loading a listing: the shapes of a listing's lines (Shapes), what loading answers and leaves (Loading), and what is claimed
-- of it (Claims).
pub mod Shapes
pub mod Loading
pub mod Claims
