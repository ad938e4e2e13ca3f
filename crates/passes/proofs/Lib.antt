pub mod MergedLaws
pub mod ClashLaws
pub mod PassLaws
