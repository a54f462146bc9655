pub mod Choosing
pub mod Promised
pub mod CheckedExamples
pub mod Orders
pub mod Going
