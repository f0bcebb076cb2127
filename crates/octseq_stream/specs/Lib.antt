pub mod FrameReader
pub mod Frames
pub mod Shown
