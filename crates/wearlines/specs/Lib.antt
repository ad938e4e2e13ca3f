pub mod Limits
pub mod Line
pub mod Log
pub mod Print
