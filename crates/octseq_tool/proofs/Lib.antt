pub mod Feeding
pub mod OneAnswer
pub mod Records
pub mod Writing
