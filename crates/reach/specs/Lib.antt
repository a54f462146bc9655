pub mod Reach
pub mod Layers
pub mod Values
pub mod Uses
