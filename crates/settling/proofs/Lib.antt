pub mod BoardLaws
pub mod Settles
pub mod Tighter
pub mod Demand3
