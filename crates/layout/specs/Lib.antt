pub mod Places
pub mod Reading
pub mod Writing
pub mod Answers
pub mod Fitting
