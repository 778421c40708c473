pub mod Look
pub mod Found
pub mod Framed
