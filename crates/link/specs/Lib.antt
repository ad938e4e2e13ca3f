pub mod Bytes
pub mod Frames
pub mod State
pub mod Completion
pub mod Link
pub mod Loads
pub mod Damaged
