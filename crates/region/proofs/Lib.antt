pub mod Alike
pub mod Carried
pub mod Swaps
pub mod Walked
