pub mod Ends
pub mod OneAnswer
pub mod OnePiece
pub mod OneRecord
pub mod Words
