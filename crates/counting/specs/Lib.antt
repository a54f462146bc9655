pub mod Counting
pub mod CheckedExamples
pub mod Steps
