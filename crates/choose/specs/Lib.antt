pub mod Advice
pub mod AdviceLaws
pub mod Steps
pub mod StepLaws
pub mod Rows
pub mod Rooms
