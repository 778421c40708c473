pub mod Fields
pub mod Inverse
