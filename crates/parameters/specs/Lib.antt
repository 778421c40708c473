pub mod Parameters
pub mod Delta
