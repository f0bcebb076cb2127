pub mod Filled
pub mod Headers
pub mod Reading
pub mod Streams
pub mod Writing
