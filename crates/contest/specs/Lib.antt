pub mod Contest
pub mod Told
pub mod Bound
pub mod Answer
pub mod Interface
pub mod Refused
