pub mod Groups
pub mod Kinds
pub mod Laws
pub mod Limits
pub mod Spell
pub mod View
