pub mod XorLaws
pub mod Several
pub mod Halves
pub mod Others
pub mod Padded
pub mod Checked
