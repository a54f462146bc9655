pub mod File
pub mod FileLaws
pub mod Reading
pub mod ReadingLaws
pub mod Sound
