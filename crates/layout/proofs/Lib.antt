-- `layout::Lib.antt` meets its contract.
-- Assumes nothing.
pub mod PlacedLaws
pub mod Lengths
pub mod QueueLaws
pub mod RoundTrip
pub mod AnswerRound
pub mod Demands
pub mod WrongAnswers
