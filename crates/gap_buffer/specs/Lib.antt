pub mod GapLength
pub mod GapText
pub mod Gaps
