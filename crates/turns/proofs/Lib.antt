pub mod Judged
pub mod Turned
