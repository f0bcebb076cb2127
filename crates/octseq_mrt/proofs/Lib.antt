pub mod Apart
pub mod Filled
pub mod Lines
pub mod Listing
pub mod OneRecord
pub mod ReadBack
pub mod Texts
