pub mod Queue
pub mod Jobs
