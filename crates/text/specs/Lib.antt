pub mod Limits
pub mod Characters
pub mod Digits
pub mod Fields
pub mod Hex
pub mod Print
