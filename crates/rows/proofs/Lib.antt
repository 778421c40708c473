pub mod Look
pub mod Found
pub mod Opening
pub mod Framed
pub mod Spelt
