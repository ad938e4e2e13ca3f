pub mod Characters
pub mod Limits
pub mod Line
pub mod Print
