pub mod Walk
pub mod Refusals
pub mod Lent
pub mod Salvages
pub mod Passed
