pub mod Stands
pub mod Rewritten
pub mod Reread
pub mod Round
