mod Copying
pub mod Inside
pub mod Spelled
mod Spliced
pub mod Tables
