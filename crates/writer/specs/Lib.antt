pub mod Bytes
pub mod Steps
pub mod BytesLaws
pub mod Writing
pub mod WritingLaws
