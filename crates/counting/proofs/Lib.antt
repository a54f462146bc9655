pub mod Counts
pub mod Cuts
pub mod Domains
pub mod Fillings
pub mod Over
pub mod StepLaws
pub mod Strikes
pub mod Tables
