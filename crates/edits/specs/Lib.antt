pub mod Edits
pub mod Freely
