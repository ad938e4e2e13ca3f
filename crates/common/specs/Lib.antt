pub mod Pick
pub mod Space
pub mod Refusals
pub mod FirstOf
pub mod Told
pub mod Four
