pub mod LineLaws
pub mod RecordsAreReadBack
pub mod WrongAnswers
