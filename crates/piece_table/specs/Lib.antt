pub mod Pieces
pub mod TableText
