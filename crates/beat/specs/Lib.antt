pub mod Beat
pub mod BeatLaws
