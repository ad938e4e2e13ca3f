pub mod LineLaws
pub mod TextLaws
pub mod PlayLaws
pub mod WrongAnswers
