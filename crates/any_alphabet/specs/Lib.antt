-- What the kernel for every alphabet asks (Needs), and what it keeps of a window (Windows).
pub mod Needs
pub mod Windows
