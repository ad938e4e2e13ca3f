pub mod JobLaws
pub mod WaitingLaws
pub mod TurnLaws
