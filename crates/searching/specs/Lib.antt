pub mod Searching
pub mod CheckedExamples
pub mod Promised
pub mod Levels
pub mod Lowest
pub mod CountedDown
