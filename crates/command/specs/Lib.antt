pub mod Options
pub mod Over
