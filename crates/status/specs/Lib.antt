pub mod Drives
pub mod Words
