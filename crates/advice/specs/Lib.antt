pub mod Advising
pub mod CheckedExamples
pub mod StepLaws
