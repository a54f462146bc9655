pub mod CountedDownLaws
pub mod Looks
pub mod Searches
pub mod Request1
