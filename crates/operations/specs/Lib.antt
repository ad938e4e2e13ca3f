pub mod Codes
pub mod Operation
pub mod Decode
pub mod Store
pub mod Test
pub mod Course
pub mod Answers
pub mod After
