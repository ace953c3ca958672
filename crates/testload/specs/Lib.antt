-- The test load: what it is, and what the call that writes it answers and leaves (TestLoad); what theorems say of it as a file (Claims).
pub mod TestLoad
pub mod Claims
