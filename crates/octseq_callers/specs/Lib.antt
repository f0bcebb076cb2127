pub mod Joined
pub mod Levels
pub mod Line
pub mod Note
pub mod Record
