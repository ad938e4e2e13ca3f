pub mod Limits
pub mod Characters
pub mod Line
pub mod Print
pub mod Play
