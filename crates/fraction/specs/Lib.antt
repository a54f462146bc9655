pub mod Rank
pub mod RankLaws
pub mod Share
pub mod ShareLaws
