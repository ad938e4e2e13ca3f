pub mod Table
pub mod DensityLaws
pub mod ListingLaws
