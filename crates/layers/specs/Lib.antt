pub mod Tables
pub mod Steps
pub mod StepLaws
pub mod TableLaws
