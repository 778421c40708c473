pub mod Short
pub mod Begun
pub mod Lines
pub mod Last
pub mod Written
pub mod Rows
