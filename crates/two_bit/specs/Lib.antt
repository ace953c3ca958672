-- What the kernel by two-bit numbers asks (Needs), and what it keeps of a window (Ordered).
pub mod Needs
pub mod Ordered
