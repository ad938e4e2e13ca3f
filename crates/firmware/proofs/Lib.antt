pub mod CallLaws
pub mod Seen
pub mod Demands
pub mod WrongAnswers
