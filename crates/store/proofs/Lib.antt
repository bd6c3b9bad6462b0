pub mod Lengths
pub mod Passes
