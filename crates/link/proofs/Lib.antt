pub mod FrameLaws
pub mod SoundLaws
pub mod PhaseLaws
