pub mod Blanked
pub mod Unquoted
pub mod ReadBack
