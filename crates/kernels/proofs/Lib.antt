-- Laws of the table of powers (PowerTables), of good settings (GoodSettings), and of the kernel by two-bit numbers under settings that it takes (Coders).
pub mod PowerTables
pub mod GoodSettings
pub mod Coders
