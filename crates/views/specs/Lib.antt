pub mod Limits
pub mod Told
pub mod View
pub mod Window
pub mod Held
pub mod Places
pub mod Refused
pub mod Columns
