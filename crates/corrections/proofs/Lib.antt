pub mod Appended
pub mod Runs
