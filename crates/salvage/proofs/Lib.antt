pub mod Parsed
pub mod Unsynced
pub mod Skip
pub mod Lent
pub mod Steps
pub mod Loop
pub mod Salvages
pub mod Unbroken
