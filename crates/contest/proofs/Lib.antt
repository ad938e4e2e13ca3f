pub mod ContestLaws
pub mod RefusedQuestions
pub mod Demands
pub mod WrongAnswers
