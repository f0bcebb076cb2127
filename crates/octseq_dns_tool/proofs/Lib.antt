pub mod Moves
pub mod OneAnswer
pub mod OnePiece
pub mod OneText
