pub mod Bounds
pub mod Sign
pub mod Order
pub mod Shift
pub mod Equal
