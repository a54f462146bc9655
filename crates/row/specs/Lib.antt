pub mod Answers
pub mod AnswerLaws
pub mod Cells
pub mod CellLaws
