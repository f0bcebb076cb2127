pub mod Frames
pub mod Report
pub mod Run
pub mod Status
pub mod Texts
