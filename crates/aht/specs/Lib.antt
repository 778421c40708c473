pub mod Walk
pub mod Aht
pub mod Promises
pub mod EqualBits
