pub mod Xor
pub mod Blockettes
