pub mod Marks
pub mod Scan
