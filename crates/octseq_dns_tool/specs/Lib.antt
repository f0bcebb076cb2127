pub mod Composed
pub mod Out
pub mod Rewritten
pub mod Shown
pub mod Taken
