pub mod Listing
pub mod Written
pub mod Sums
pub mod Places
pub mod Writing
pub mod Orders
pub mod Members
