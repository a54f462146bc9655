pub mod Board
pub mod BoardLaws
pub mod Refusals
pub mod Sound
pub mod RefusalLaws
