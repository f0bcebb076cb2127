pub mod Answering
pub mod Ends
pub mod Naming
pub mod Steps
pub mod Taken
pub mod TextSteps
pub mod Writing
