pub mod Replies
pub mod Said
