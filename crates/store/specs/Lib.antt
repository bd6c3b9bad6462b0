pub mod Edits
pub mod Refusals
pub mod Shown
