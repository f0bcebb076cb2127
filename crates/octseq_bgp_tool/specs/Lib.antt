pub mod Out
pub mod Records
pub mod Shown
pub mod Streams
pub mod Words
