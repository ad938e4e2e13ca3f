pub mod CodeLaws
pub mod LineLaws
pub mod TextLaws
pub mod Demands
pub mod WrongAnswers
