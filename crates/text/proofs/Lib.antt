pub mod DigitLaws
pub mod FieldLaws
pub mod HexLaws
pub mod TextLaws
pub mod ReadBackLaws
pub mod ReadLaws
