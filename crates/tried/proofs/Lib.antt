pub mod Example
pub mod Tried
pub mod SentExample
