pub mod Shifts
pub mod Limits
pub mod Padding
