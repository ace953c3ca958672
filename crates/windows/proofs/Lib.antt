-- Laws of windows: the windows of a list (Windows), their last elements (Lasts), its parts (Parts), the list that is written (Filling), the code of a window by its
-- ends (WindowEnds).
pub mod Windows
pub mod Lasts
pub mod Parts
pub mod Filling
pub mod WindowEnds
