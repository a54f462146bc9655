pub mod Finishing
pub mod Purse
pub mod Stack
pub mod StackLaws
pub mod RoomLaws
pub mod Request1
