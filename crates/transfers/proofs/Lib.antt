pub mod DataLaws
pub mod ReadLaws
pub mod ResultLaws
