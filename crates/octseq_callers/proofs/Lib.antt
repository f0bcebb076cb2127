pub mod Joins
pub mod LineFronts
pub mod RecordCode
pub mod Filled
