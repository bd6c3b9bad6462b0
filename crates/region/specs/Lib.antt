pub mod Edits
pub mod Laws
pub mod Walks
