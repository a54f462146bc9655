pub mod Settling
pub mod CheckedExamples
pub mod Families
pub mod Cells
pub mod Visits
pub mod Passes
pub mod Fillings
pub mod Boards
