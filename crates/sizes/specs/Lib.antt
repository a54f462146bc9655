pub mod Sizes
pub mod Sound
pub mod SizeLaws
