pub mod Examples
pub mod Laws
pub mod Outcomes
pub mod Runs
pub mod Steps
