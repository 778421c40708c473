pub mod Filled
pub mod Inverse
pub mod Parsed
pub mod Written
