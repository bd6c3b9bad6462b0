pub mod Corrects
pub mod Forms
pub mod Replies
pub mod Runs
pub mod Whole
