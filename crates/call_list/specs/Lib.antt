pub mod Again
pub mod Forms
pub mod Lines
pub mod Lists
pub mod Misreads
pub mod Parts
