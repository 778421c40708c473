pub mod Refusing
pub mod Correcting
pub mod Few
pub mod Where
pub mod Corrected
