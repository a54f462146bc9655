pub mod CandidateLaws
pub mod ChoiceLaws
pub mod GoingLaws
