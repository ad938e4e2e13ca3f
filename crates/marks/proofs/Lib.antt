pub mod LegalLaws
pub mod ScanLaws
pub mod FindingLaws
pub mod TornLaws
pub mod StopLaws
pub mod ScanTurns
