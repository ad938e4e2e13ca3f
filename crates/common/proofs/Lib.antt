pub mod PickLaws
pub mod Written
pub mod Parts
pub mod SpaceLaws
pub mod FirstOfLaws
pub mod RefusalLaws
