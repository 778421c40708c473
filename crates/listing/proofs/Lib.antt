pub mod Tests
pub mod Decimals
pub mod Left
