pub mod Data
pub mod Expected
pub mod Results
