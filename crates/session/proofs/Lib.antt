pub mod Checked
pub mod Counted
pub mod Edited
pub mod Inverted
pub mod Passed
pub mod Steps
pub mod Turns
pub mod Views
