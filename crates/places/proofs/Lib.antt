pub mod Back
pub mod Carried
pub mod Kept
pub mod Run
pub mod Sixteen
